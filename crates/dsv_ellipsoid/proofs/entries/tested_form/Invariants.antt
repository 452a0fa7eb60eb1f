use Rattle.std.proofs.Common.{◌≡◌, ℕ, ◌-◌, ◌<◌, ◌≤◌, ◌⊎◌, length, pos, Some}
use Rattle.dsv_algebra.specs.Vectors.{vector_of, matrix_of}
use Rattle.dsv_ellipsoid.specs.Sums.{sum_of, places_of}
use Rattle.dsv_ellipsoid.proofs.entries.tested_form.Given as goal

abbrev pub invariant-loop-i : goal.invariant-loop-i
invariant-loop-i l = record {
  size : length l.rows ≡ 8;
  entries : (i j : ℕ) → i < l.i → j < places_of l.kind (length l.c - 1)
      → sum_of l.kind (length l.c - 1) (vector_of l.c) l.offer i j ≡ Some (matrix_of l.rows i j);
  elsewhere : (i j : ℕ) → (l.i ≤ i) ⊎ (places_of l.kind (length l.c - 1) ≤ j) → matrix_of l.rows i j ≡ pos 0;
}
