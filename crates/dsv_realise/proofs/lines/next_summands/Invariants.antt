use Rattle.std.proofs.Common.{◌≡◌, ◌≤◌, ◌+◌, ◌*◌, length, drop}
use Rattle.dsv_realise.specs.Making.{with_summands}
use Rattle.dsv_realise.proofs.lines.next_summands.Given as goal

abbrev pub invariant-loop-summand : goal.invariant-loop-summand
invariant-loop-summand l = record {
  same : with_summands (record { nodes = l.nodes.items; place = l.place }) (drop l.summand-index l.summands) ≡ with_summands (record { nodes = l.fn.nodes.items; place = l.fn.line }) l.summands;
  few : length l.nodes.items ≤ length l.fn.nodes.items + 5 * l.summand-index;
}
