use Rattle.std.proofs.Common.{◌++◌}
use Rattle.std.specs.Prelude.{codes}
use Rattle.dsv_word.specs.Words.{width, lo, hi}
use Rattle.dsv_base.proofs.TakingLemmas.{writes_after, writes_cut}
use Rattle.dsv_ctext.specs.Comments.{range_text, range_start, range_end}
use Rattle.dsv_ctext.proofs.remarks.put_step_remark.Goals as goal

pub returns-in_err-put_all : goal.returns-in_err-put_all
returns-in_err-put_all g c = writes_cut {x = (codes "/* y(n) of the input x(n), which is a word: ")} ((range_text (lo (width c.args.remarks.now.format)) (hi (width c.args.remarks.now.format))) ++ ((range_start) ++ ((range_text c.args.remarks.now.low c.args.remarks.now.high) ++ ((range_end))))) c.from_residual.ensures.0 c.in_err-put_all.ensures.cut

pub returns-in_err-put_word_range : goal.returns-in_err-put_word_range
returns-in_err-put_word_range g c = writes_after {x = (codes "/* y(n) of the input x(n), which is a word: ")} {y = (range_text (lo (width c.args.remarks.now.format)) (hi (width c.args.remarks.now.format))) ++ ((range_start) ++ ((range_text c.args.remarks.now.low c.args.remarks.now.high) ++ ((range_end))))} c.in_ok-put_all.ensures.whole (writes_cut {x = (range_text (lo (width c.args.remarks.now.format)) (hi (width c.args.remarks.now.format)))} ((range_start) ++ ((range_text c.args.remarks.now.low c.args.remarks.now.high) ++ ((range_end)))) c.from_residual-in_err-put_word_range.ensures.0 c.in_err-put_word_range.ensures.cut)

pub returns-in_err-put_all-2 : goal.returns-in_err-put_all-2
returns-in_err-put_all-2 g c = writes_after {x = (codes "/* y(n) of the input x(n), which is a word: ")} {y = (range_text (lo (width c.args.remarks.now.format)) (hi (width c.args.remarks.now.format))) ++ ((range_start) ++ ((range_text c.args.remarks.now.low c.args.remarks.now.high) ++ ((range_end))))} c.in_ok-put_all.ensures.whole (writes_after {x = (range_text (lo (width c.args.remarks.now.format)) (hi (width c.args.remarks.now.format)))} {y = (range_start) ++ ((range_text c.args.remarks.now.low c.args.remarks.now.high) ++ ((range_end)))} c.in_ok-put_word_range.ensures.whole (writes_cut {x = (range_start)} ((range_text c.args.remarks.now.low c.args.remarks.now.high) ++ ((range_end))) c.from_residual-in_err-put_all-2.ensures.0 c.in_err-put_all-2.ensures.cut))

pub returns-in_err-put_range : goal.returns-in_err-put_range
returns-in_err-put_range g c = writes_after {x = (codes "/* y(n) of the input x(n), which is a word: ")} {y = (range_text (lo (width c.args.remarks.now.format)) (hi (width c.args.remarks.now.format))) ++ ((range_start) ++ ((range_text c.args.remarks.now.low c.args.remarks.now.high) ++ ((range_end))))} c.in_ok-put_all.ensures.whole (writes_after {x = (range_text (lo (width c.args.remarks.now.format)) (hi (width c.args.remarks.now.format)))} {y = (range_start) ++ ((range_text c.args.remarks.now.low c.args.remarks.now.high) ++ ((range_end)))} c.in_ok-put_word_range.ensures.whole (writes_after {x = (range_start)} {y = (range_text c.args.remarks.now.low c.args.remarks.now.high) ++ ((range_end))} c.in_ok-put_all-2.ensures.whole (writes_cut {x = (range_text c.args.remarks.now.low c.args.remarks.now.high)} ((range_end)) c.from_residual-in_err-put_range.ensures.0 c.in_err-put_range.ensures.cut)))

pub returns : goal.returns
returns g c = writes_after {x = (codes "/* y(n) of the input x(n), which is a word: ")} {y = (range_text (lo (width c.args.remarks.now.format)) (hi (width c.args.remarks.now.format))) ++ ((range_start) ++ ((range_text c.args.remarks.now.low c.args.remarks.now.high) ++ ((range_end))))} c.in_ok-put_all.ensures.whole (writes_after {x = (range_text (lo (width c.args.remarks.now.format)) (hi (width c.args.remarks.now.format)))} {y = (range_start) ++ ((range_text c.args.remarks.now.low c.args.remarks.now.high) ++ ((range_end)))} c.in_ok-put_word_range.ensures.whole (writes_after {x = (range_start)} {y = (range_text c.args.remarks.now.low c.args.remarks.now.high) ++ ((range_end))} c.in_ok-put_all-2.ensures.whole (writes_after {x = (range_text c.args.remarks.now.low c.args.remarks.now.high)} {y = (range_end)} c.in_ok-put_range.ensures.whole (c.put_all-3.ensures))))
