use Rattle.std.proofs.Common.{◌≡◌, Some}
use Rattle.dsv_algebra.specs.Vectors.{matrix_of}
use Rattle.dsv_forms.specs.Sums.{sum_from}
use Rattle.dsv_state_space.specs.Losses.{row_summands}
use Rattle.dsv_state_space.proofs.falls.sum_less_row.Given as goal

abbrev pub invariant-loop-l : goal.invariant-loop-l
invariant-loop-l l = sum_from l.fn.sum (row_summands l.l (matrix_of l.system.a) (matrix_of l.form.rows) l.at.row l.at.column l.k) ≡ Some l.sum
