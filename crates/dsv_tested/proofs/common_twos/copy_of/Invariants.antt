use Rattle.std.proofs.Common.{◌≡◌, take}
use Rattle.dsv_tested.proofs.common_twos.copy_of.Given as goal

abbrev pub invariant-loop-c : goal.invariant-loop-c
invariant-loop-c l = l.copied.items ≡ take l.c-index l.list
