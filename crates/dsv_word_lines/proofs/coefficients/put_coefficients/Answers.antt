use Rattle.std.specs.Prelude.{codes}
use Rattle.dsv_base.proofs.TakingLemmas.{writes_after, writes_cut}
use Rattle.dsv_word_lines.specs.WordLines.{words_line}
use Rattle.dsv_word_lines.proofs.coefficients.put_coefficients.Goals as goal

pub returns-in_err-put_line : goal.returns-in_err-put_line
returns-in_err-put_line g c =
    writes_after c.in_ok-put_delta.ensures.whole
    (writes_cut (words_line (codes "a") c.args.quantised.now.a) c.from_residual-in_err-put_line.ensures.0 (rw c.b.ensures.same at c.in_err-put_line.ensures.cut))

pub returns : goal.returns
returns g c =
    writes_after c.in_ok-put_delta.ensures.whole
    (writes_after (rw c.b.ensures.same at c.in_ok-put_line.ensures.whole) (rw c.a.ensures.same at c.put_line-2.ensures))
