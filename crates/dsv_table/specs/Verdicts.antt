-- What the verdict of a table means.
use Rattle.std.specs.Prelude.{◌≡◌, ℕ, ℤ, pos, ◌*ℤ◌, ◌<ℤ◌}
use Rattle.dsv_algebra.specs.Vectors.{Vector, Matrix}
use Rattle.dsv_algebra.specs.Companion.{StrictlyFallsAlong, IsKeptAwayAlong}
use Rattle.dsv_table.specs.Table.{verdict_from}
use Rattle.dsv_table.specs.declared.verdict.TableVerdict.{TableVerdict}
use Rattle.dsv_table.specs.declared.verdict.TableVerdict.TheVariants as verdict

-- a form that strictly falls along each trajectory of the polynomial
abbrev pub HasFallingForm : ℕ → Vector → Type 0
HasFallingForm d c = (P : Matrix) × StrictlyFallsAlong d c P

-- a form that keeps a trajectory of the polynomial away from 0
abbrev pub HasKeptAwayForm : ℕ → Vector → Type 0
HasKeptAwayForm d c = (P : Matrix) × (start : Vector) × IsKeptAwayAlong d c P start

-- what a verdict says of the polynomial c_0 to c_d
abbrev pub IsShown : TableVerdict → ℕ → Vector → Type 0
IsShown verdict.Inside d c = HasFallingForm d c
IsShown (verdict.NotInside row) d c = HasKeptAwayForm d c

-- What the table of a polynomial with a positive lead says of it is so.
abbrev pub Decides : Type 0
Decides = (d : ℕ) (c : Vector) → pos 0 <ℤ c 0 → IsShown (verdict_from d 0 c) d c

-- A positive factor of all numbers of a row doesn't change the verdict.
abbrev pub FactorsDoNotCount : Type 0
FactorsDoNotCount = (d number : ℕ) (m : ℤ) (l : Vector) → pos 0 <ℤ m
    → verdict_from d number (λ i. m *ℤ l i) ≡ verdict_from d number l
