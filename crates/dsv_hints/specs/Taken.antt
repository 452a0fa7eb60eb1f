-- The two kinds of steps, each after the test for the end of the derivation.
use Rattle.std.specs.Prelude.{ℕ, ◌-◌, List, [], ◌∷◌, ◌++◌, Some, Result, Ok, length, not}
use Rattle.dsv_cnf.specs.Literal.{Literal}
use Rattle.dsv_hints.specs.Derivation.{Carried, all_live, clause_answer, is_empty}
use Rattle.dsv_hints.specs.Derivation.{last_of, entries_from, refused_if, without_all}
use Rattle.dsv_hints.specs.CheckerView.{CheckerView}
use Rattle.dsv_hints.specs.StoreView.{StoreView}
use Rattle.dsv_cnf.specs.FormulaView.{FormulaView}
use Rattle.dsv_hints.specs.declared.step.StepRefusal.{StepRefusal}
use Rattle.dsv_hints.specs.declared.step.StepRefusal.TheVariants.{UnknownId}

abbrev pub clause_answer_of : Carried → ℕ → List Literal → List ℕ → Result (Unit {0}) StepRefusal
clause_answer_of s id c hints = clause_answer s.vars s.last s.live id c hints

abbrev pub delete_answer_of : Carried → List ℕ → Result (Unit {0}) StepRefusal
delete_answer_of s ids = refused_if (not (all_live s.live ids)) UnknownId (Ok tt)

abbrev pub after_add : CheckerView → ℕ → List Literal → CheckerView
after_add v id c = record {
  carried = record {
    vars = v.carried.vars;
    last = Some id;
    live = v.carried.live ++ record { id = id; clause = c } ∷ [];
    ended = is_empty c;
  };
  spare_steps = v.spare_steps - 1;
  spare_literals = v.spare_literals - length c;
}

abbrev pub after_delete : CheckerView → List ℕ → CheckerView
after_delete v ids = record v {
  carried = record v.carried { live = without_all v.carried.live ids };
}

-- the clauses of a formula, and no room for more
abbrev pub start_store : FormulaView → StoreView
start_store f = record {
  vars = f.vars;
  last = last_of (length f.clauses);
  live = entries_from f.clauses 1;
  spare_clauses = 0;
  spare_literals = 0;
}
