use Rattle.std.proofs.Common.{◌≡◌, ◌-◌, ℕ, ◌<◌, ◌≤◌, length, pos, slice_index_or, min, max}
use Rattle.dsv_algebra.specs.Vectors.{vector_of, matrix_of}
use Rattle.dsv_forms.specs.Sums.{fall_sum, or_too_wide}
use Rattle.dsv_forms.proofs.fall.fall_row.Given as goal

abbrev pub invariant-loop-j : goal.invariant-loop-j
invariant-loop-j l = record {
  places : length l.row ≡ 8;
  entries : (k : ℕ) → k < l.j → slice_index_or l.row k (pos 0)
      ≡ or_too_wide (fall_sum (length l.c - 1) (vector_of l.c) (matrix_of l.form.rows) (min l.i k) (max l.i k));
  after : (k : ℕ) → l.j ≤ k → slice_index_or l.row k (pos 0) ≡ pos 0;
}
