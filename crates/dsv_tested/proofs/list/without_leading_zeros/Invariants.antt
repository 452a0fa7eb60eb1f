use Rattle.std.proofs.Common.{◌≡◌, drop}
use Rattle.dsv_tested.specs.Tested.{without_leading_zeros}
use Rattle.dsv_tested.proofs.list.without_leading_zeros.Given as goal

abbrev pub invariant-loop-i : goal.invariant-loop-i
invariant-loop-i l = without_leading_zeros (drop l.i l.list) ≡ without_leading_zeros l.list
