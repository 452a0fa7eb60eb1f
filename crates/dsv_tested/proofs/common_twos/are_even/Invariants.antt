use Rattle.std.proofs.Common.{◌≡◌, drop}
use Rattle.dsv_tested.specs.Tested.{are_even}
use Rattle.dsv_tested.proofs.common_twos.are_even.Given as goal

abbrev pub invariant-loop-c : goal.invariant-loop-c
invariant-loop-c l = are_even (drop l.c-index l.list) ≡ are_even l.list
