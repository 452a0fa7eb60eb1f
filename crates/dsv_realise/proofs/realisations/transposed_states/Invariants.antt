use Rattle.std.proofs.Common.{◌≡◌, ◌≤◌, ◌+◌, ◌-◌, ◌*◌, length, drop}
use Rattle.dsv_realise.specs.Making.{with_transposed}
use Rattle.dsv_realise.specs.Netlists.{count, transposed_nodes}
use Rattle.dsv_realise.proofs.realisations.transposed_states.Given as goal

abbrev pub invariant-loop-i : goal.invariant-loop-i
invariant-loop-i l = record {
  same : with_transposed l.quantised 0 l.output (drop l.i l.quantised.b) (drop l.i l.quantised.a) (count l.i (length l.quantised.a - l.i)) (record { nodes = l.nodes.items; places = l.next.items }) ≡ transposed_nodes l.quantised;
  few : length l.nodes.items ≤ length l.fn.nodes.items + 15 * l.i;
}
