use Rattle.std.proofs.Common.{◌++◌}
use Rattle.std.specs.Prelude.{codes, pos}
use Rattle.std.specs.Fmt.{signed_decimal}
use Rattle.dsv_word.specs.Words.{width}
use Rattle.dsv_base.proofs.TakingLemmas.{writes_after, writes_cut}
use Rattle.dsv_ctext.specs.Comments.{words_end}
use Rattle.dsv_ctext.proofs.remarks.put_words.Goals as goal

pub returns-in_err-put_all : goal.returns-in_err-put_all
returns-in_err-put_all g c = writes_cut {x = (codes "   Words have ")} ((signed_decimal (pos (width c.args.format.now))) ++ ((codes " bits, ") ++ ((signed_decimal (pos c.args.format.now.frac_bits)) ++ ((codes " of them after the point: w stands for w / 2^") ++ ((signed_decimal (pos c.args.format.now.frac_bits)) ++ ((words_end))))))) c.from_residual.ensures.0 c.in_err-put_all.ensures.cut

pub returns-in_err-put_bits : goal.returns-in_err-put_bits
returns-in_err-put_bits g c = writes_after {x = (codes "   Words have ")} {y = (signed_decimal (pos (width c.args.format.now))) ++ ((codes " bits, ") ++ ((signed_decimal (pos c.args.format.now.frac_bits)) ++ ((codes " of them after the point: w stands for w / 2^") ++ ((signed_decimal (pos c.args.format.now.frac_bits)) ++ ((words_end))))))} c.in_ok-put_all.ensures.whole (writes_cut {x = (signed_decimal (pos (width c.args.format.now)))} ((codes " bits, ") ++ ((signed_decimal (pos c.args.format.now.frac_bits)) ++ ((codes " of them after the point: w stands for w / 2^") ++ ((signed_decimal (pos c.args.format.now.frac_bits)) ++ ((words_end)))))) c.from_residual-in_err-put_bits.ensures.0 c.in_err-put_bits.ensures.cut)

pub returns-in_err-put_all-2 : goal.returns-in_err-put_all-2
returns-in_err-put_all-2 g c = writes_after {x = (codes "   Words have ")} {y = (signed_decimal (pos (width c.args.format.now))) ++ ((codes " bits, ") ++ ((signed_decimal (pos c.args.format.now.frac_bits)) ++ ((codes " of them after the point: w stands for w / 2^") ++ ((signed_decimal (pos c.args.format.now.frac_bits)) ++ ((words_end))))))} c.in_ok-put_all.ensures.whole (writes_after {x = (signed_decimal (pos (width c.args.format.now)))} {y = (codes " bits, ") ++ ((signed_decimal (pos c.args.format.now.frac_bits)) ++ ((codes " of them after the point: w stands for w / 2^") ++ ((signed_decimal (pos c.args.format.now.frac_bits)) ++ ((words_end)))))} c.in_ok-put_bits.ensures.whole (writes_cut {x = (codes " bits, ")} ((signed_decimal (pos c.args.format.now.frac_bits)) ++ ((codes " of them after the point: w stands for w / 2^") ++ ((signed_decimal (pos c.args.format.now.frac_bits)) ++ ((words_end))))) c.from_residual-in_err-put_all-2.ensures.0 c.in_err-put_all-2.ensures.cut))

pub returns-in_err-put_after : goal.returns-in_err-put_after
returns-in_err-put_after g c = writes_after {x = (codes "   Words have ")} {y = (signed_decimal (pos (width c.args.format.now))) ++ ((codes " bits, ") ++ ((signed_decimal (pos c.args.format.now.frac_bits)) ++ ((codes " of them after the point: w stands for w / 2^") ++ ((signed_decimal (pos c.args.format.now.frac_bits)) ++ ((words_end))))))} c.in_ok-put_all.ensures.whole (writes_after {x = (signed_decimal (pos (width c.args.format.now)))} {y = (codes " bits, ") ++ ((signed_decimal (pos c.args.format.now.frac_bits)) ++ ((codes " of them after the point: w stands for w / 2^") ++ ((signed_decimal (pos c.args.format.now.frac_bits)) ++ ((words_end)))))} c.in_ok-put_bits.ensures.whole (writes_after {x = (codes " bits, ")} {y = (signed_decimal (pos c.args.format.now.frac_bits)) ++ ((codes " of them after the point: w stands for w / 2^") ++ ((signed_decimal (pos c.args.format.now.frac_bits)) ++ ((words_end))))} c.in_ok-put_all-2.ensures.whole (writes_cut {x = (signed_decimal (pos c.args.format.now.frac_bits))} ((codes " of them after the point: w stands for w / 2^") ++ ((signed_decimal (pos c.args.format.now.frac_bits)) ++ ((words_end)))) c.from_residual-in_err-put_after.ensures.0 c.in_err-put_after.ensures.cut)))

pub returns-in_err-put_all-3 : goal.returns-in_err-put_all-3
returns-in_err-put_all-3 g c = writes_after {x = (codes "   Words have ")} {y = (signed_decimal (pos (width c.args.format.now))) ++ ((codes " bits, ") ++ ((signed_decimal (pos c.args.format.now.frac_bits)) ++ ((codes " of them after the point: w stands for w / 2^") ++ ((signed_decimal (pos c.args.format.now.frac_bits)) ++ ((words_end))))))} c.in_ok-put_all.ensures.whole (writes_after {x = (signed_decimal (pos (width c.args.format.now)))} {y = (codes " bits, ") ++ ((signed_decimal (pos c.args.format.now.frac_bits)) ++ ((codes " of them after the point: w stands for w / 2^") ++ ((signed_decimal (pos c.args.format.now.frac_bits)) ++ ((words_end)))))} c.in_ok-put_bits.ensures.whole (writes_after {x = (codes " bits, ")} {y = (signed_decimal (pos c.args.format.now.frac_bits)) ++ ((codes " of them after the point: w stands for w / 2^") ++ ((signed_decimal (pos c.args.format.now.frac_bits)) ++ ((words_end))))} c.in_ok-put_all-2.ensures.whole (writes_after {x = (signed_decimal (pos c.args.format.now.frac_bits))} {y = (codes " of them after the point: w stands for w / 2^") ++ ((signed_decimal (pos c.args.format.now.frac_bits)) ++ ((words_end)))} c.in_ok-put_after.ensures.whole (writes_cut {x = (codes " of them after the point: w stands for w / 2^")} ((signed_decimal (pos c.args.format.now.frac_bits)) ++ ((words_end))) c.from_residual-in_err-put_all-3.ensures.0 c.in_err-put_all-3.ensures.cut))))

pub returns-in_err-put_after-2 : goal.returns-in_err-put_after-2
returns-in_err-put_after-2 g c = writes_after {x = (codes "   Words have ")} {y = (signed_decimal (pos (width c.args.format.now))) ++ ((codes " bits, ") ++ ((signed_decimal (pos c.args.format.now.frac_bits)) ++ ((codes " of them after the point: w stands for w / 2^") ++ ((signed_decimal (pos c.args.format.now.frac_bits)) ++ ((words_end))))))} c.in_ok-put_all.ensures.whole (writes_after {x = (signed_decimal (pos (width c.args.format.now)))} {y = (codes " bits, ") ++ ((signed_decimal (pos c.args.format.now.frac_bits)) ++ ((codes " of them after the point: w stands for w / 2^") ++ ((signed_decimal (pos c.args.format.now.frac_bits)) ++ ((words_end)))))} c.in_ok-put_bits.ensures.whole (writes_after {x = (codes " bits, ")} {y = (signed_decimal (pos c.args.format.now.frac_bits)) ++ ((codes " of them after the point: w stands for w / 2^") ++ ((signed_decimal (pos c.args.format.now.frac_bits)) ++ ((words_end))))} c.in_ok-put_all-2.ensures.whole (writes_after {x = (signed_decimal (pos c.args.format.now.frac_bits))} {y = (codes " of them after the point: w stands for w / 2^") ++ ((signed_decimal (pos c.args.format.now.frac_bits)) ++ ((words_end)))} c.in_ok-put_after.ensures.whole (writes_after {x = (codes " of them after the point: w stands for w / 2^")} {y = (signed_decimal (pos c.args.format.now.frac_bits)) ++ ((words_end))} c.in_ok-put_all-3.ensures.whole (writes_cut {x = (signed_decimal (pos c.args.format.now.frac_bits))} ((words_end)) c.from_residual-in_err-put_after-2.ensures.0 c.in_err-put_after-2.ensures.cut)))))

pub returns : goal.returns
returns g c = writes_after {x = (codes "   Words have ")} {y = (signed_decimal (pos (width c.args.format.now))) ++ ((codes " bits, ") ++ ((signed_decimal (pos c.args.format.now.frac_bits)) ++ ((codes " of them after the point: w stands for w / 2^") ++ ((signed_decimal (pos c.args.format.now.frac_bits)) ++ ((words_end))))))} c.in_ok-put_all.ensures.whole (writes_after {x = (signed_decimal (pos (width c.args.format.now)))} {y = (codes " bits, ") ++ ((signed_decimal (pos c.args.format.now.frac_bits)) ++ ((codes " of them after the point: w stands for w / 2^") ++ ((signed_decimal (pos c.args.format.now.frac_bits)) ++ ((words_end)))))} c.in_ok-put_bits.ensures.whole (writes_after {x = (codes " bits, ")} {y = (signed_decimal (pos c.args.format.now.frac_bits)) ++ ((codes " of them after the point: w stands for w / 2^") ++ ((signed_decimal (pos c.args.format.now.frac_bits)) ++ ((words_end))))} c.in_ok-put_all-2.ensures.whole (writes_after {x = (signed_decimal (pos c.args.format.now.frac_bits))} {y = (codes " of them after the point: w stands for w / 2^") ++ ((signed_decimal (pos c.args.format.now.frac_bits)) ++ ((words_end)))} c.in_ok-put_after.ensures.whole (writes_after {x = (codes " of them after the point: w stands for w / 2^")} {y = (signed_decimal (pos c.args.format.now.frac_bits)) ++ ((words_end))} c.in_ok-put_all-3.ensures.whole (writes_after {x = (signed_decimal (pos c.args.format.now.frac_bits))} {y = (words_end)} c.in_ok-put_after-2.ensures.whole (c.put_all-4.ensures))))))
