use Rattle.std.proofs.Common.{◌≡◌, ℕ, ◌-◌, ◌<◌, length, false}
use Rattle.dsv_algebra.specs.Vectors.{vector_of, matrix_of}
use Rattle.dsv_forms.specs.Padded.{row_of}
use Rattle.dsv_sums.specs.Elimination.{entries_of}
use Rattle.dsv_sums.specs.SumForms.{is_too_great, next_entry}
use Rattle.dsv_sums.proofs.partial_sums.next_row.Given as goal

abbrev pub invariant-loop-j : goal.invariant-loop-j
invariant-loop-j l = record {
  same : l.row ≡ row_of (entries_of l.j (next_entry (length l.c - 1) (vector_of l.c) (matrix_of l.form.rows) l.i));
  small : (k : ℕ) → k < l.j → is_too_great (length l.c - 1) (vector_of l.c) (matrix_of l.form.rows) l.i k ≡ false;
}
