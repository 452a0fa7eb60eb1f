use Rattle.std.proofs.Common.{◌≡◌, map, drop}
use Rattle.dsv_command.specs.Reasons.{first_in, value_fault}
use Rattle.dsv_command.specs.Views.{mark_view}
use Rattle.dsv_command.proofs.faults.first_value_fault.Given as goal

abbrev pub invariant-loop-mark : goal.invariant-loop-mark
invariant-loop-mark l = first_in value_fault (map mark_view (drop l.mark-index l.marks)) ≡ first_in value_fault (map mark_view l.marks)
