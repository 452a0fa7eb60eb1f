-- What is found of a linear system by the table of its polynomial.
use Rattle.std.specs.Prelude.{◌≡◌, ℕ, ◌+◌, ◌<◌, ◌≤◌, List, length, ℤ}
use Rattle.dsv_algebra.specs.Vectors.{Vector, Matrix, vector_of}
use Rattle.dsv_algebra.specs.Falling.{StrictlyFalls, IsKeptAway}
use Rattle.dsv_table.specs.Findings.{IsFinding}
use Rattle.dsv_table.specs.Systems.{divided}
use Rattle.dsv_table.specs.declared.finding.TableFinding.{TableFinding}
use Rattle.dsv_table.specs.declared.verdict.TableVerdict.{TableVerdict}
use Rattle.dsv_table.specs.declared.verdict.TableVerdict.TheVariants as verdict
use Rattle.dsv_system_table.specs.Outputs.{unit, IsObeyed}

-- a form strictly falls in each step of the system of d places with the matrix M over q
abbrev pub SystemFalls : ℕ → ℤ → Matrix → Type 0
SystemFalls d q M = (Q : Matrix) × StrictlyFalls d q M Q

-- a form keeps the system's trajectory from some start away from 0
abbrev pub SystemIsKeptAway : ℕ → ℤ → Matrix → Type 0
SystemIsKeptAway d q M = (Q : Matrix) × (start : Vector) × IsKeptAway d q M Q start

-- what a verdict says of the system
abbrev pub IsSystemShown : TableVerdict → ℕ → ℤ → Matrix → Type 0
IsSystemShown verdict.Inside d q M = SystemFalls d q M
IsSystemShown (verdict.NotInside row) d q M = SystemIsKeptAway d q M

-- These are the coefficients c_0 to c_d of a polynomial which each place of each trajectory of the
-- system obeys, each step divided by q: those of the polynomial a, which the places obey if no step
-- is divided, times powers of q.
pub record IsSystemPolynomial (d : ℕ) (q : ℤ) (M : Matrix) (cs : List ℤ) : Type 0 where
  pub a : Vector
  pub obeyed : (i : ℕ) → i < d → IsObeyed d d M (unit i) a
  pub coefficients : (k : ℕ) → k ≤ d → vector_of cs k ≡ divided d q a k

-- The finding is that of a polynomial of order d which each place of each trajectory obeys, each
-- step divided by q; and its verdict is shown by a form of the system.
pub record IsSystemFinding (d : ℕ) (q : ℤ) (M : Matrix) (found : TableFinding) : Type 0 where
  pub order : length found.poly ≡ d + 1
  pub finding : IsFinding found.poly found
  pub obeyed : IsSystemPolynomial d q M found.poly
  pub shown : IsSystemShown found.verdict d q M
