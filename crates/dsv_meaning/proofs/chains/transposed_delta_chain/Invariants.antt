use Rattle.std.proofs.Common.{◌≡◌, ◌+◌, ◌*◌, ◌≤◌, length, drop}
use Rattle.dsv_meaning.specs.Equations.{feedback, transposed_delta_chain}
use Rattle.dsv_meaning.proofs.chains.transposed_delta_chain.Given as goal

abbrev pub invariant-loop-i : goal.invariant-loop-i
invariant-loop-i l = record {
  same : transposed_delta_chain l.quantised l.signals.x.now l.signals.y.now (drop l.i (drop 1 l.quantised.b)) (drop l.i (feedback l.quantised)) (drop l.i l.old) (record { words = l.registers.items; exact = l.exact.items })
      ≡ transposed_delta_chain l.quantised l.signals.x.now l.signals.y.now (drop 1 l.quantised.b) (feedback l.quantised) l.old (record { words = l.initial.registers.items; exact = l.initial.exact.items });
  count : length l.registers.items ≡ length l.initial.registers.items + l.i;
  room : length l.exact.items ≤ length l.initial.exact.items + 10 * l.i;
}
