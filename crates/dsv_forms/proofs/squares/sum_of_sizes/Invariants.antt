use Rattle.std.proofs.Common.{◌≡◌, Some, pos}
use Rattle.dsv_algebra.specs.Vectors.{matrix_of}
use Rattle.dsv_forms.specs.Sums.{sum_from, size_summands}
use Rattle.dsv_forms.proofs.squares.sum_of_sizes.Given as goal

abbrev pub invariant-loop-j : goal.invariant-loop-j
invariant-loop-j l = sum_from (pos 0) (size_summands l.j (matrix_of l.rest) l.i) ≡ Some l.sum
