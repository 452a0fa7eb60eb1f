use Rattle.std.proofs.Common.{◌≡◌, ℕ, ◌<◌, pos, int_lt, true}
use Rattle.dsv_algebra.specs.Vectors.{matrix_of}
use Rattle.dsv_sums.specs.Elimination.{margin, weight}
use Rattle.dsv_sums.specs.Partial.{first_squares}
use Rattle.dsv_sums.proofs.elimination.squares_of.Given as goal

abbrev pub invariant-loop-k : goal.invariant-loop-k
invariant-loop-k l = record {
  same : l.squares ≡ first_squares l.form.d (matrix_of l.form.rows) l.k;
  positive : (q : ℕ) → q < l.k → int_lt (pos 0) (weight (margin l.form.d (matrix_of l.form.rows)) (matrix_of l.form.rows) q) ≡ true;
}
