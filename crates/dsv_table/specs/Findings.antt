-- What is found of a polynomial by its table.
use Rattle.std.specs.Prelude.{◌≡◌, ◌⊎◌, ◌-◌, ◌<◌, ◌≤◌, List, length, Option, Some, None}
use Rattle.std.specs.Prelude.{ℤ, pos, ◌<ℤ◌}
use Rattle.dsv_algebra.specs.Vectors.{vector_of}
use Rattle.dsv_table.specs.Rates.{HasFallAtRate, HasKeptAwayAtRate}
use Rattle.dsv_table.specs.RootSize.{parts, IsRootSize}
use Rattle.dsv_table.specs.Table.{verdict_of}
use Rattle.dsv_table.specs.Verdicts.{IsShown}
use Rattle.dsv_table.specs.declared.finding.RootBounds.{RootBounds}
use Rattle.dsv_table.specs.declared.finding.TableFinding.{TableFinding}

-- The size of the greatest root is between these numbers of hundred-thousandths: a form falls at
-- the rate of the greatest, and one is kept away from 0 at the rate of the least.
pub record AreBounds (cs : List ℤ) (b : RootBounds) : Type 0 where
  pub size : IsRootSize cs (record { least = b.least; greatest = b.greatest })
  pub falls : HasFallAtRate (length cs - 1) b.greatest parts (vector_of cs)
  pub away : (b.least ≡ pos 0) ⊎ HasKeptAwayAtRate (length cs - 1) b.least parts (vector_of cs)

-- the same if there is a root
abbrev pub IsRootOf : List ℤ → Option RootBounds → Type 0
IsRootOf cs None = length cs ≡ 1
IsRootOf cs (Some b) = (1 < length cs) × AreBounds cs b

-- The finding has the coefficients of this polynomial, whose first is positive, its table's verdict
-- with a form that shows it, and the size of its greatest root.
pub record IsFinding (cs : List ℤ) (found : TableFinding) : Type 0 where
  pub some : 1 ≤ length cs
  pub lead : pos 0 <ℤ vector_of cs 0
  pub poly : found.poly ≡ cs
  pub verdict : found.verdict ≡ verdict_of cs
  pub shown : IsShown found.verdict (length cs - 1) (vector_of cs)
  pub root : IsRootOf cs found.root

-- A polynomial has one finding.
abbrev pub OneFinding : Type 0
OneFinding = (cs : List ℤ) (f g : TableFinding) → IsFinding cs f → IsFinding cs g → f ≡ g
