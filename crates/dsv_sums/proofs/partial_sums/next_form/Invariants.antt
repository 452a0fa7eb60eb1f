use Rattle.std.proofs.Common.{◌≡◌, ℕ, ◌-◌, ◌<◌, length, map, false}
use Rattle.dsv_algebra.specs.Vectors.{vector_of, matrix_of}
use Rattle.dsv_forms.specs.Padded.{matrix_with}
use Rattle.dsv_forms.specs.Refusals.{places}
use Rattle.dsv_sums.specs.Elimination.{entries_of}
use Rattle.dsv_sums.specs.Partial.{is_row_too_great}
use Rattle.dsv_sums.specs.SumForms.{next_entry}
use Rattle.dsv_sums.proofs.partial_sums.next_form.Given as goal

abbrev pub invariant-loop-i : goal.invariant-loop-i
invariant-loop-i l = record {
  same : l.rows ≡ matrix_with (map (λ i. entries_of (length l.c - 1) (next_entry (length l.c - 1) (vector_of l.c) (matrix_of l.form.rows) i)) (places l.i));
  small : (k : ℕ) → k < l.i → is_row_too_great (length l.c - 1) (vector_of l.c) (matrix_of l.form.rows) k ≡ false;
}
