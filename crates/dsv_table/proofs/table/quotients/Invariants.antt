use Rattle.std.proofs.Common.{◌≡◌, ◌<◌, ℕ, length}
use Rattle.std.proofs.Math.IntN.{◌*ℤ◌}
use Rattle.dsv_algebra.specs.Vectors.{vector_of}
use Rattle.dsv_table.proofs.table.quotients.Given as goal

abbrev pub invariant-loop-number : goal.invariant-loop-number
invariant-loop-number l = record {
  places : length l.list.items ≡ l.number-index;
  same : (i : ℕ) → i < l.number-index → vector_of l.list.items i *ℤ l.divisor ≡ vector_of l.numbers i;
}
