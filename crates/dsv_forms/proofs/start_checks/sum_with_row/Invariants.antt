use Rattle.std.proofs.Common.{◌≡◌, Some}
use Rattle.dsv_algebra.specs.Vectors.{vector_of, matrix_of}
use Rattle.dsv_forms.specs.Sums.{sum_from, row_summands}
use Rattle.dsv_forms.proofs.start_checks.sum_with_row.Given as goal

abbrev pub invariant-loop-j : goal.invariant-loop-j
invariant-loop-j l = sum_from l.fn.sum (row_summands l.j (matrix_of l.form.rows) (vector_of l.start) l.i) ≡ Some l.sum
