use Rattle.std.proofs.Common.{◌≡◌, Some, pos}
use Rattle.std.specs.List.{flat_map}
use Rattle.dsv_algebra.specs.Vectors.{vector_of, matrix_of}
use Rattle.dsv_forms.specs.Refusals.{places}
use Rattle.dsv_forms.specs.Sums.{sum_from, row_summands}
use Rattle.dsv_forms.proofs.start_checks.value_at.Given as goal

abbrev pub invariant-loop-i : goal.invariant-loop-i
invariant-loop-i l = sum_from (pos 0) (flat_map (row_summands l.form.d (matrix_of l.form.rows) (vector_of l.start)) (places l.i)) ≡ Some l.sum
