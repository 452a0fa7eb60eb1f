use Rattle.std.proofs.Common.{◌≡◌, ◌≤◌, ◌+◌, ◌*◌, length, drop}
use Rattle.dsv_meaning.specs.Lines.{next_summands}
use Rattle.dsv_meaning.proofs.lines.next_summands.Given as goal

abbrev pub invariant-loop-summand : goal.invariant-loop-summand
invariant-loop-summand l = record {
  same : next_summands l.format (record { value = l.value; exact = l.exact.items }) (drop l.summand-index l.summands)
      ≡ next_summands l.format (record { value = l.sum; exact = l.initial.exact.items }) l.summands;
  room : length l.exact.items ≤ length l.initial.exact.items + 2 * l.summand-index;
}
