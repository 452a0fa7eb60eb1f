use Rattle.std.proofs.Common.{◌≡◌, ◌-◌, ◌<◌, ℕ, length}
use Rattle.dsv_algebra.specs.Vectors.{vector_of}
use Rattle.dsv_table.specs.Table.{row_after}
use Rattle.dsv_table.proofs.table.cross_differences.Given as goal

abbrev pub invariant-loop-i : goal.invariant-loop-i
invariant-loop-i l = record {
  places : length l.next.items ≡ l.i;
  same : (i : ℕ) → i < l.i → vector_of l.next.items i ≡ row_after (length l.row - 1) (vector_of l.row) i;
}
