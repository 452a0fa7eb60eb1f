-- Private contracts alone cite this file: watched literals.
use Rattle.std.specs.Prelude.{ℕ, List}
use Rattle.dsv_solver.specs.declared.watches.Pair.{Pair}

-- the two watched literals of each clause, and for each literal's code the clauses that watch it
pub record WatchView : Type 0 where
  pub vars : ℕ
  pub pairs : List Pair
  pub lists : List (List ℕ)
