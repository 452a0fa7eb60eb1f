-- How a checker is kept: its set of literals is empty between steps.
use Rattle.std.specs.Prelude.{◌≡◌}
use Rattle.dsv_cnf.specs.LiteralSet.{empty_set}
use Rattle.dsv_hints.specs.CheckerView.{CheckerView}
use Rattle.dsv_hints.specs.declared.checker.Checker.TheInside.{Inside}

abbrev pub view_of : Inside → CheckerView
view_of c = record {
  carried = record {
    vars = c.store.vars;
    last = c.store.last;
    live = c.store.live;
    ended = c.ended;
  };
  spare_steps = c.store.spare_clauses;
  spare_literals = c.store.spare_literals;
}

abbrev pub IsChecker : Inside → Type 0
IsChecker c = c.set ≡ empty_set c.store.vars
