use Rattle.std.proofs.Common.{◌≡◌, ◌≤◌, ◌+◌, ◌-◌, ◌*◌, length}
use Rattle.dsv_meaning.specs.Equations.{order}
use Rattle.dsv_realise.specs.Making.{with_delta}
use Rattle.dsv_realise.specs.Netlists.{count}
use Rattle.dsv_realise.proofs.realisations.delta_states.Given as goal

abbrev pub invariant-loop-node : goal.invariant-loop-node
invariant-loop-node l = record {
  same : with_delta l.quantised l.older (count l.node (l.end - l.node)) (record { nodes = l.nodes.items; places = l.next.items }) ≡ with_delta l.quantised l.before (count l.first (order l.quantised)) (record { nodes = l.fn.nodes.items; places = l.fn.next.items });
  few : length l.nodes.items ≤ length l.fn.nodes.items + 10 * (l.node - l.first);
}
