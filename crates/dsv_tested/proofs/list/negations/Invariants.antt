use Rattle.std.proofs.Common.{◌≡◌, take, map, neg_ℤ}
use Rattle.dsv_tested.proofs.list.negations.Given as goal

abbrev pub invariant-loop-c : goal.invariant-loop-c
invariant-loop-c l = l.changed.items ≡ map neg_ℤ (take l.c-index l.list)
