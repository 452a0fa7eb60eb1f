use Rattle.std.proofs.Common.{◌≡◌, ◌≤◌, ◌+◌, ◌*◌, length, drop}
use Rattle.dsv_meaning.specs.Equations.{delta_chain}
use Rattle.dsv_meaning.proofs.chains.delta_chain.Given as goal

abbrev pub invariant-loop-word : goal.invariant-loop-word
invariant-loop-word l = record {
  same : delta_chain l.quantised l.before (drop l.word-index l.old) (record { words = l.registers.items; exact = l.exact.items })
      ≡ delta_chain l.quantised l.newest l.old (record { words = l.initial.registers.items; exact = l.initial.exact.items });
  count : length l.registers.items ≡ length l.initial.registers.items + l.word-index;
  room : length l.exact.items ≤ length l.initial.exact.items + 4 * l.word-index;
}
