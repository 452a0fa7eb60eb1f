use Rattle.std.proofs.Common.{◌≡◌, Some}
use Rattle.std.specs.List.{flat_map}
use Rattle.dsv_algebra.specs.Vectors.{matrix_of}
use Rattle.dsv_forms.specs.Refusals.{places}
use Rattle.dsv_forms.specs.Sums.{sum_from}
use Rattle.dsv_state_space.specs.Losses.{row_summands}
use Rattle.dsv_state_space.specs.StateView.{states}
use Rattle.dsv_state_space.proofs.falls.sum_less_image.Given as goal

abbrev pub invariant-loop-k : goal.invariant-loop-k
invariant-loop-k l = sum_from l.fn.sum (flat_map (row_summands (states l.system) (matrix_of l.system.a) (matrix_of l.form.rows) l.at.row l.at.column) (places l.k)) ≡ Some l.sum
