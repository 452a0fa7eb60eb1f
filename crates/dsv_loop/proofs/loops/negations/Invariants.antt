use Rattle.std.proofs.Common.{◌≡◌, map, take, neg_ℤ}
use Rattle.dsv_loop.proofs.loops.negations.Given as goal

abbrev pub invariant-loop-number : goal.invariant-loop-number
invariant-loop-number l = l.negations ≡ map neg_ℤ (take l.number-index l.list)
