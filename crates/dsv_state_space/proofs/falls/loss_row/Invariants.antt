use Rattle.std.proofs.Common.{◌≡◌, ℕ, ◌<◌, ◌≤◌, length, pos, slice_index_or, false}
use Rattle.dsv_algebra.specs.Falling.{fall_form}
use Rattle.dsv_algebra.specs.Vectors.{matrix_of}
use Rattle.dsv_forms.specs.Refusals.{any_wide}
use Rattle.dsv_state_space.specs.StateForms.{one_of, loss_numbers}
use Rattle.dsv_state_space.specs.StateView.{states}
use Rattle.dsv_state_space.proofs.falls.loss_row.Given as goal

abbrev pub invariant-loop-j : goal.invariant-loop-j
invariant-loop-j l = record {
  size : length l.row ≡ 8;
  narrow : (k : ℕ) → k < l.j → any_wide (loss_numbers (states l.system) (one_of l.system) (matrix_of l.system.a) (matrix_of l.form.rows) l.i k) ≡ false;
  entries : (k : ℕ) → k < l.j → slice_index_or l.row k (pos 0) ≡ fall_form (states l.system) (one_of l.system) (matrix_of l.system.a) (matrix_of l.form.rows) l.i k;
  after : (k : ℕ) → l.j ≤ k → slice_index_or l.row k (pos 0) ≡ pos 0;
}
