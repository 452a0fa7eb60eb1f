-- What contracts see of a text that is being read.
use Rattle.std.specs.Prelude.{ℕ, List, Bool}
use Rattle.dsv_cnf.specs.Literal.{Literal}

-- the header's numbers, the clauses so far, the literals of the clause that has no 0 yet, and
-- whether more clauses came than the header says
pub record ReadingView : Type 0 where
  pub vars : ℕ
  pub wanted : ℕ
  pub clauses : List (List Literal)
  pub open_clause : List Literal
  pub over : Bool
