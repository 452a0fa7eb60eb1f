use Rattle.std.proofs.Common.{◌≡◌, ◌≤◌, length, take, filter}
use Rattle.dsv_report.specs.Report.{is_spent}
use Rattle.dsv_report.proofs.report.spent_in.Given as goal

abbrev pub invariant-loop-set : goal.invariant-loop-set
invariant-loop-set l = (l.spent ≡ length (filter is_spent (take l.set-index l.kept))) × (l.spent ≤ l.set-index)
