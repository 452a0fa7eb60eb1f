use Rattle.std.proofs.Common.{◌≡◌, take, map}
use Rattle.dsv_unroll.specs.Rules.{term_at}
use Rattle.dsv_unroll.proofs.unroller.Unroller.next_terms.Given as goal

abbrev pub invariant-loop-k : goal.invariant-loop-k
invariant-loop-k l = l.registers.items ≡ map (term_at l.ids) (take l.k l.net.next)
