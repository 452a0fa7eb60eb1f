use Rattle.std.proofs.Common.{◌≡◌, ℕ, ◌<◌, ◌≤◌, None, []}
use Rattle.dsv_algebra.specs.Vectors.{matrix_of}
use Rattle.dsv_forms.specs.Refusals.{first_of, place_tests}
use Rattle.dsv_forms.proofs.squares.check_row.Given as goal

abbrev pub invariant-loop-j : goal.invariant-loop-j
invariant-loop-j l = (q : ℕ) → l.i ≤ q → q < l.j → first_of (place_tests l.part l.n l.squares (matrix_of l.form.rows l.i q) [] l.i q) ≡ None
