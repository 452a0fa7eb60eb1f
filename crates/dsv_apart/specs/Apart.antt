-- What a form that strictly falls excludes.
use Rattle.std.specs.Prelude.{ℕ, ℤ}
use Rattle.dsv_algebra.specs.Vectors.{Vector, Matrix}
use Rattle.dsv_algebra.specs.Falling.{StrictlyFalls, IsKeptAway}

-- No system has both a form that strictly falls and a form that keeps a trajectory away from 0.
abbrev pub NothingIsBoth : Type 0
NothingIsBoth = (d : ℕ) (q : ℤ) (M P W : Matrix) (start : Vector)
    → StrictlyFalls d q M P → IsKeptAway d q M W start → ⊥
