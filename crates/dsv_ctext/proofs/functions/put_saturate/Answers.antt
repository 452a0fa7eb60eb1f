use Rattle.std.proofs.Common.{◌++◌}
use Rattle.dsv_base.proofs.TakingLemmas.{writes_after, writes_cut}
use Rattle.dsv_word.specs.Words.{width, lo, hi}
use Rattle.dsv_ctext.specs.HelperTexts.{cast_start, low_part, high_part}
use Rattle.dsv_ctext.proofs.FunctionTexts.{saturate_written}
use Rattle.dsv_ctext.proofs.functions.put_saturate.Goals as goal

pub returns-in_err-put_cast_start : goal.returns-in_err-put_cast_start
returns-in_err-put_cast_start g c = rw (saturate_written c.args.word (width c.args.format.now)) (writes_cut {x = (cast_start c.args.word)} (((low_part (lo (width c.args.format.now)))) ++ ((high_part (hi (width c.args.format.now))))) c.from_residual.ensures.0 c.in_err-put_cast_start.ensures.cut)

pub returns-in_err-put_low : goal.returns-in_err-put_low
returns-in_err-put_low g c = rw (saturate_written c.args.word (width c.args.format.now)) (writes_after {x = (cast_start c.args.word)} {y = ((low_part (lo (width c.args.format.now)))) ++ ((high_part (hi (width c.args.format.now))))} c.in_ok-put_cast_start.ensures.whole (writes_cut {x = (low_part (lo (width c.args.format.now)))} ((high_part (hi (width c.args.format.now)))) c.from_residual-in_err-put_low.ensures.0 c.in_err-put_low.ensures.cut))

pub returns : goal.returns
returns g c = rw (saturate_written c.args.word (width c.args.format.now)) (writes_after {x = (cast_start c.args.word)} {y = ((low_part (lo (width c.args.format.now)))) ++ ((high_part (hi (width c.args.format.now))))} c.in_ok-put_cast_start.ensures.whole (writes_after {x = (low_part (lo (width c.args.format.now)))} {y = (high_part (hi (width c.args.format.now)))} c.in_ok-put_low.ensures.whole (c.put_high.ensures)))
