use Rattle.std.proofs.Common.{◌≡◌, ℕ, ◌<◌, ◌≤◌, length, pos, min, max, ◌⊎◌}
use Rattle.dsv_algebra.specs.Vectors.{vector_of, matrix_of}
use Rattle.dsv_forms.specs.Sums.{fall_sum, or_too_wide}
use Rattle.dsv_forms.proofs.fall.fall_form.Given as goal

abbrev pub invariant-loop-i : goal.invariant-loop-i
invariant-loop-i l = record {
  places : length l.rows ≡ 8;
  entries : (i j : ℕ) → i < l.i → j < l.d → matrix_of l.rows i j
      ≡ or_too_wide (fall_sum l.d (vector_of l.c) (matrix_of l.form.rows) (min i j) (max i j));
  elsewhere : (i j : ℕ) → (l.i ≤ i) ⊎ (l.d ≤ j) → matrix_of l.rows i j ≡ pos 0;
}
