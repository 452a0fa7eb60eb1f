-- How a text that is being read is kept.
use Rattle.std.specs.Prelude.{◌≤◌, ◌^◌, ◌<◌, length}
use Rattle.dsv_cnf.specs.Formula.{IsOver}
use Rattle.dsv_cnf.specs.ReadingView.{ReadingView}
use Rattle.dsv_cnf.specs.declared.reader.Reading.TheInside.{Inside}

abbrev pub view_of : Inside → ReadingView
view_of r = record {
  vars = r.formula.vars;
  wanted = r.wanted;
  clauses = r.formula.clauses;
  open_clause = r.«open».items;
  over = r.over;
}

pub record IsReading (r : Inside) : Type 0 where
  pub over_vars : IsOver r.formula.vars r.«open».items
  pub few_clauses : length r.formula.clauses ≤ r.wanted
  pub small : r.wanted < 2 ^ 32
