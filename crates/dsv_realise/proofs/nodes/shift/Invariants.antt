use Rattle.std.proofs.Common.{◌≡◌, ◌++◌, ◌-◌, ◌+◌}
use Rattle.dsv_realise.specs.Netlists.{shift, count}
use Rattle.dsv_realise.proofs.nodes.shift.Given as goal

abbrev pub invariant-loop-k : goal.invariant-loop-k
invariant-loop-k l = l.next.items ++ count (l.rest + l.k) (l.places - 1 - l.k) ≡ l.fn.next.items ++ shift l.first l.rest l.places
