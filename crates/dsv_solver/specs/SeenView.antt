-- Private contracts alone cite this file: literals that were met.
use Rattle.std.specs.Prelude.{ℕ, List}
use Rattle.dsv_cnf.specs.Literal.{Literal}

-- literals that were met: over how many variables, and the literals, the newest first
pub record SeenView : Type 0 where
  pub vars : ℕ
  pub literals : List Literal
