use Rattle.dsv_base.proofs.TakingLemmas.{writes_after, writes_cut}
use Rattle.dsv_report.specs.Report.{inequalities_text}
use Rattle.dsv_report.proofs.report.put_candidate.Goals as goal

pub returns-in_err-put_number_line : goal.returns-in_err-put_number_line
returns-in_err-put_number_line g c =
    writes_cut (inequalities_text c.args.candidate.now.inequalities.items) c.from_residual.ensures.0 (rw c.into.ensures at c.in_err-put_number_line.ensures.cut)

pub returns : goal.returns
returns g c = writes_after (rw c.into.ensures at c.in_ok-put_number_line.ensures.whole) (rw c.deref.ensures.0 at c.put_inequalities.ensures)
