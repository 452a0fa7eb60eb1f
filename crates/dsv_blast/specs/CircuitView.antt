-- What contracts see of a circuit, and what a step of its making gives.
use Rattle.std.specs.Prelude.{List}
use Rattle.dsv_cnf.specs.FormulaView.{FormulaView}
use Rattle.dsv_cnf.specs.Literal.{Literal}

-- a literal that is true, and the clauses of the gates so far
pub record CircuitView : Type 0 where
  pub one : Literal
  pub formula : FormulaView

-- a circuit, and a literal over it
pub record Wired : Type 0 where
  pub circuit : CircuitView
  pub bit : Literal

-- a circuit, and the literals of a word over it, lowest bit first
pub record Built : Type 0 where
  pub circuit : CircuitView
  pub bits : List Literal
