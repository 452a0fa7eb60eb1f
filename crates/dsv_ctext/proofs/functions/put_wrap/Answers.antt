use Rattle.std.proofs.Common.{◌++◌}
use Rattle.dsv_base.proofs.TakingLemmas.{writes_after, writes_cut}
use Rattle.dsv_ctext.specs.HelperTexts.{cast_start, wrap_start, wrap_end}
use Rattle.dsv_ctext.proofs.FunctionTexts.{wrap_written}
use Rattle.dsv_ctext.proofs.functions.put_wrap.Goals as goal

pub returns-in_err-put_cast_start : goal.returns-in_err-put_cast_start
returns-in_err-put_cast_start g c = rw (wrap_written c.args.word c.args.bits) (writes_cut {x = (cast_start c.args.word)} (((wrap_start c.args.bits)) ++ ((wrap_end c.args.bits))) c.from_residual.ensures.0 c.in_err-put_cast_start.ensures.cut)

pub returns-in_err-put_wrap_start : goal.returns-in_err-put_wrap_start
returns-in_err-put_wrap_start g c = rw (wrap_written c.args.word c.args.bits) (writes_after {x = (cast_start c.args.word)} {y = ((wrap_start c.args.bits)) ++ ((wrap_end c.args.bits))} c.in_ok-put_cast_start.ensures.whole (writes_cut {x = (wrap_start c.args.bits)} ((wrap_end c.args.bits)) c.from_residual-in_err-put_wrap_start.ensures.0 c.in_err-put_wrap_start.ensures.cut))

pub returns : goal.returns
returns g c = rw (wrap_written c.args.word c.args.bits) (writes_after {x = (cast_start c.args.word)} {y = ((wrap_start c.args.bits)) ++ ((wrap_end c.args.bits))} c.in_ok-put_cast_start.ensures.whole (writes_after {x = (wrap_start c.args.bits)} {y = (wrap_end c.args.bits)} c.in_ok-put_wrap_start.ensures.whole (c.put_wrap_end.ensures)))
