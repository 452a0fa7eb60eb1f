-- What a form loses in a step, as a form.
use Rattle.std.specs.Prelude.{◌≡◌, ℕ, ◌<◌, ◌≤◌, ◌⊎◌, pos}
use Rattle.dsv_algebra.specs.Vectors.{Vector, matrix_of}
use Rattle.dsv_algebra.specs.Companion.{companion_fall_form}
use Rattle.dsv_forms.specs.declared.offers.Form.{Form}

-- F has the entries of c_0^2 P - C^T P C in its d places, and 0 elsewhere.
pub record IsFallForm (d : ℕ) (c : Vector) (P F : Form) : Type 0 where
  pub places : F.d ≡ d
  pub entries : (i j : ℕ) → i < d → j < d
      → matrix_of F.rows i j ≡ companion_fall_form d c (matrix_of P.rows) i j
  pub elsewhere : (i j : ℕ) → (d ≤ i) ⊎ (d ≤ j) → matrix_of F.rows i j ≡ pos 0
