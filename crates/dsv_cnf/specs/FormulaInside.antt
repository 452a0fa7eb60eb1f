-- How a formula is kept.
use Rattle.std.specs.Prelude.{◌^◌, ◌≤◌, length}
use Rattle.dsv_cnf.specs.Formula.{IsOver}
use Rattle.dsv_cnf.specs.FormulaView.{FormulaView}
use Rattle.dsv_cnf.specs.Pieces.{pieces, AreBounds}
use Rattle.dsv_cnf.specs.declared.formula.Formula.TheInside.{Inside}

abbrev pub view_of : Inside → FormulaView
view_of f = record { vars = f.vars; clauses = pieces f.literals.items f.bounds.items }

pub record IsFormula (f : Inside) : Type 0 where
  pub few_vars : f.vars ≤ 2 ^ 31
  pub few_clauses : length f.bounds.items ≤ 2 ^ 32
  pub bounds : AreBounds f.bounds.items (length f.literals.items)
  pub over : IsOver f.vars f.literals.items
