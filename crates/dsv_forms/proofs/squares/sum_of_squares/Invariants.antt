use Rattle.std.proofs.Common.{◌≡◌, Some, pos}
use Rattle.dsv_forms.specs.Sums.{sum_from, square_summands}
use Rattle.dsv_forms.proofs.squares.sum_of_squares.Given as goal

abbrev pub invariant-loop-k : goal.invariant-loop-k
invariant-loop-k l = sum_from (pos 0) (square_summands l.k l.squares l.i l.j) ≡ Some l.sum
