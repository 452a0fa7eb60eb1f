use Rattle.std.proofs.Common.{◌≡◌, ℕ, ◌<◌, ◌≤◌, length, pos, None, ◌⊎◌}
use Rattle.dsv_algebra.specs.Falling.{fall_form}
use Rattle.dsv_algebra.specs.Vectors.{matrix_of}
use Rattle.dsv_forms.specs.Refusals.{first_of}
use Rattle.dsv_state_space.specs.StateForms.{one_of, loss_row_tests}
use Rattle.dsv_state_space.specs.StateView.{states}
use Rattle.dsv_state_space.proofs.falls.loss_form.Given as goal

abbrev pub invariant-loop-i : goal.invariant-loop-i
invariant-loop-i l = record {
  places : length l.rows ≡ 8;
  passed : (i : ℕ) → i < l.i → first_of (loss_row_tests (states l.system) (one_of l.system) (matrix_of l.system.a) (matrix_of l.form.rows) i) ≡ None;
  entries : (i j : ℕ) → i < l.i → j < states l.system → matrix_of l.rows i j ≡ fall_form (states l.system) (one_of l.system) (matrix_of l.system.a) (matrix_of l.form.rows) i j;
  elsewhere : (i j : ℕ) → (l.i ≤ i) ⊎ (states l.system ≤ j) → matrix_of l.rows i j ≡ pos 0;
}
