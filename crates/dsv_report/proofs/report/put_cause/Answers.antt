use Rattle.std.proofs.Common.{◌++◌}
use Rattle.dsv_base.proofs.TakingLemmas.{writes_after, writes_cut}
use Rattle.dsv_report.specs.Report.{offers_text, jury_text}
use Rattle.dsv_report.proofs.report.put_cause.Goals as goal

pub returns-in_err-put_line : goal.returns-in_err-put_line
returns-in_err-put_line g c =
    writes_cut (offers_text c.args.offers ++ jury_text c.args.jury) c.from_residual.ensures.0 (rw c.coefficients.ensures.same at c.in_err-put_line.ensures.cut)

pub returns-in_err-put_number_line : goal.returns-in_err-put_number_line
returns-in_err-put_number_line g c =
    writes_after (rw c.coefficients.ensures.same at c.in_ok-put_line.ensures.whole)
    (writes_cut (jury_text c.args.jury) c.from_residual-in_err-put_number_line.ensures.0 c.in_err-put_number_line.ensures.cut)

pub returns : goal.returns
returns g c = writes_after (rw c.coefficients.ensures.same at c.in_ok-put_line.ensures.whole) (writes_after c.in_ok-put_number_line.ensures.whole c.put_jury.ensures)
