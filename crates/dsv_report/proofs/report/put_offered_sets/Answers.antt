use Rattle.std.proofs.Common.{codes, length, filter}
use Rattle.dsv_base.proofs.TakingLemmas.{writes_after, writes_cut}
use Rattle.dsv_report.specs.Lines.{number_line}
use Rattle.dsv_report.specs.Report.{is_spent}
use Rattle.dsv_report.proofs.report.put_offered_sets.Goals as goal

pub returns-in_err-put_numbered : goal.returns-in_err-put_numbered
returns-in_err-put_numbered g c = writes_cut (number_line (codes " spent ") (length (filter is_spent c.args.kept.now))) c.from_residual.ensures.0 c.in_err-put_numbered.ensures.cut

pub returns : goal.returns
returns g c = writes_after c.in_ok-put_numbered.ensures.whole (rw c.spent_in.ensures at c.put_number_line.ensures)
