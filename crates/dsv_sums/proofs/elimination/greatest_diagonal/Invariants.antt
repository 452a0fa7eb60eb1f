use Rattle.std.proofs.Common.{◌≡◌, ◌≤◌}
use Rattle.dsv_algebra.specs.Vectors.{matrix_of}
use Rattle.dsv_sums.specs.Elimination.{greatest_diagonal}
use Rattle.dsv_sums.proofs.elimination.greatest_diagonal.Given as goal

abbrev pub invariant-loop-i : goal.invariant-loop-i
invariant-loop-i l = record {
  some : 1 ≤ l.i;
  same : l.greatest ≡ greatest_diagonal l.i (matrix_of l.form.rows);
}
