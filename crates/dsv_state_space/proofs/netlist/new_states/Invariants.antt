use Rattle.std.proofs.Common.{◌≡◌, ◌≤◌, ◌+◌, ◌*◌, length, drop}
use Rattle.dsv_realise.specs.Making.{chained_at, no_places}
use Rattle.dsv_state_space.specs.Netlists.{with_states}
use Rattle.dsv_state_space.proofs.netlist.new_states.Given as goal

abbrev pub invariant-loop-i : goal.invariant-loop-i
invariant-loop-i l = record {
  same : with_states (drop l.i l.inputs) (drop l.i l.rows) (chained_at l.nodes.items l.next.items) ≡ with_states l.inputs l.rows (no_places l.fn.nodes.items);
  few : length l.nodes.items ≤ length l.fn.nodes.items + 45 * l.i;
}
