-- What contracts see of a formula.
use Rattle.std.specs.Prelude.{ℕ, List}
use Rattle.dsv_cnf.specs.Literal.{Literal}

-- how many variables there are, and the clauses in order
pub record FormulaView : Type 0 where
  pub vars : ℕ
  pub clauses : List (List Literal)
