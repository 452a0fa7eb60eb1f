use Rattle.std.proofs.Common.{◌≡◌, ℕ, ◌<◌, ◌≤◌, false, pos, int_lt}
use Rattle.dsv_algebra.specs.Vectors.{matrix_of}
use Rattle.dsv_schur_cohn.proofs.direction.negative_place.Given as goal

abbrev pub invariant-loop-i : goal.invariant-loop-i
invariant-loop-i l = (i : ℕ) → l.k ≤ i → i < l.i → int_lt (matrix_of l.rows i i) (pos 0) ≡ false
