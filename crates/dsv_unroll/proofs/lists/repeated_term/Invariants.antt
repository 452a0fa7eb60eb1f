use Rattle.std.proofs.Common.{◌≡◌, replicate}
use Rattle.dsv_unroll.proofs.lists.repeated_term.Given as goal

abbrev pub invariant-loop-i : goal.invariant-loop-i
invariant-loop-i l = l.ids.items ≡ replicate l.i l.id
