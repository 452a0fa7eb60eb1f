use Rattle.std.proofs.Common.{[], ◌∷◌, ◌++◌}
use Rattle.std.specs.Prelude.{codes}
use Rattle.dsv_base.proofs.TakingLemmas.{writes_after, writes_cut}
use Rattle.dsv_report.specs.Lines.{numbered}
use Rattle.dsv_report.specs.Forms.{numbers_line}
use Rattle.dsv_report.proofs.report.put_break.Goals as goal

pub returns-in_err-put_numbered : goal.returns-in_err-put_numbered
returns-in_err-put_numbered g c =
    writes_cut (numbered (codes " value ") c.args.value ++ numbers_line (codes " exact") (c.args.exact.now ∷ [])) c.from_residual.ensures.0 c.in_err-put_numbered.ensures.cut

pub returns-in_err-put_numbered-2 : goal.returns-in_err-put_numbered-2
returns-in_err-put_numbered-2 g c =
    writes_after c.in_ok-put_numbered.ensures.whole
    (writes_cut (numbers_line (codes " exact") (c.args.exact.now ∷ [])) c.from_residual-in_err-put_numbered-2.ensures.0 c.in_err-put_numbered-2.ensures.cut)

pub returns : goal.returns
returns g c =
    writes_after c.in_ok-put_numbered.ensures.whole
    (writes_after c.in_ok-put_numbered-2.ensures.whole (rw c.from_ref.ensures.value at c.put_line.ensures))
