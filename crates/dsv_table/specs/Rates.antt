-- How fast the trajectories of a polynomial fall, or rise.
use Rattle.std.specs.Prelude.{◌≢◌, ℕ, suc, ◌-◌, ℤ, pos, ◌*ℤ◌}
use Rattle.dsv_algebra.specs.Vectors.{Vector, Matrix}
use Rattle.dsv_algebra.specs.Falling.{power, StrictlyFalls, IsKeptAway}
use Rattle.dsv_algebra.specs.Companion.{companion}
use Rattle.dsv_table.specs.Verdicts.{HasFallingForm, HasKeptAwayForm}

-- The polynomial with its roots divided by p / s, times powers of both so that all is whole.
abbrev pub scaled : ℕ → ℤ → ℤ → Vector → Vector
scaled d p s c k = c k *ℤ power p (d - k) *ℤ power s k

-- The recursion of c with each step times s / p has a form that strictly falls: along c this form
-- falls by the square of p / s in a step at least.
abbrev pub HasFallAtRate : ℕ → ℤ → ℤ → Vector → Type 0
HasFallAtRate d p s c =
    (P : Matrix) × StrictlyFalls d (p *ℤ c 0) (λ i j. s *ℤ companion c i j) P

-- The recursion of c with each step times s / p is kept away from 0 from some start: along c the
-- form stays negative, and its size times the square of s / p doesn't fall in a step.
abbrev pub HasKeptAwayAtRate : ℕ → ℤ → ℤ → Vector → Type 0
HasKeptAwayAtRate d p s c = (P : Matrix) × (start : Vector)
    × IsKeptAway d (p *ℤ c 0) (λ i j. s *ℤ companion c i j) P start

-- The rate is shown by a form that strictly falls along the scaled polynomial,
abbrev pub FallsAtRate : Type 0
FallsAtRate = (e : ℕ) (p s : ℤ) (c : Vector) → p ≢ pos 0 → s ≢ pos 0
    → HasFallingForm (suc e) (scaled (suc e) p s c) → HasFallAtRate (suc e) p s c

-- and its other side by a form that keeps a trajectory of the scaled polynomial away from 0.
abbrev pub IsKeptAwayAtRate : Type 0
IsKeptAwayAtRate = (e : ℕ) (p s : ℤ) (c : Vector) → p ≢ pos 0 → s ≢ pos 0
    → HasKeptAwayForm (suc e) (scaled (suc e) p s c) → HasKeptAwayAtRate (suc e) p s c
