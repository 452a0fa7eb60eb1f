use Rattle.std.proofs.Common.{◌≡◌, [], map, drop, take}
use Rattle.dsv_command.specs.Reasons.{again_in}
use Rattle.dsv_command.specs.Views.{mark_view}
use Rattle.dsv_command.proofs.faults.first_again.Given as goal

abbrev pub invariant-loop-i : goal.invariant-loop-i
invariant-loop-i l = again_in (map mark_view (take l.i l.marks)) (map mark_view (drop l.i l.marks)) ≡ again_in [] (map mark_view l.marks)
