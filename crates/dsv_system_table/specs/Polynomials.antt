-- Polynomials of systems that are computed. Private contracts alone cite this.
use Rattle.std.specs.Prelude.{◌≡◌, ℕ, ◌+◌, ◌-◌, ◌<◌, List, length, ℤ, pos, ◌<ℤ◌}
use Rattle.dsv_algebra.specs.Vectors.{Matrix, vector_of}
use Rattle.dsv_table.specs.Findings.{IsFinding}
use Rattle.dsv_table.specs.Systems.{divided}
use Rattle.dsv_table.specs.declared.finding.TableFinding.{TableFinding}
use Rattle.dsv_system_table.specs.Outputs.{unit, IsObeyed}
use Rattle.dsv_system_table.specs.Rows.{AreEntries}

-- the coefficients of a polynomial of order d with a positive lead that annihilates the matrix
pub record IsAnnihilator (d : ℕ) (M : Matrix) (cs : List ℤ) : Type 0 where
  pub order : length cs ≡ d + 1
  pub lead : pos 0 <ℤ vector_of cs 0
  pub obeyed : (i : ℕ) → i < d → IsObeyed d d M (unit i) (vector_of cs)

-- what is found of the polynomial with these coefficients for steps that are divided by q
pub record IsDividedFinding (q : ℤ) (cs : List ℤ) (found : TableFinding) : Type 0 where
  pub poly : AreEntries (length cs) (divided (length cs - 1) q (vector_of cs)) found.poly
  pub finding : IsFinding found.poly found
