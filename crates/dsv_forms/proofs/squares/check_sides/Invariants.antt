use Rattle.std.proofs.Common.{◌≡◌, ℕ, ◌<◌, None, []}
use Rattle.dsv_algebra.specs.Vectors.{matrix_of}
use Rattle.dsv_forms.specs.Refusals.{first_of, row_tests}
use Rattle.dsv_forms.proofs.squares.check_sides.Given as goal

abbrev pub invariant-loop-i : goal.invariant-loop-i
invariant-loop-i l = (q : ℕ) → q < l.i → first_of (row_tests l.part l.form.d l.n l.squares (matrix_of l.form.rows) (λ i j. []) q) ≡ None
