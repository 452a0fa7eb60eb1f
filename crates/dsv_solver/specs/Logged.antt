-- Private contracts alone cite this file: the log of a search, and the clauses so far.
use Rattle.std.specs.Prelude.{◌≡◌, ℕ, ◌+◌, false, List, ◌++◌, length}
use Rattle.dsv_cnf.specs.Literal.{Literal}
use Rattle.dsv_cnf.specs.FormulaView.{FormulaView}
use Rattle.dsv_hints.specs.Derivation.{Carried, last_of, entries_from, start_of}
use Rattle.dsv_hints.specs.Lessons.{after_all, AllSteps, IsLesson}
use Rattle.dsv_hints.specs.declared.step.Step.{Step}

-- what is carried after these clauses, where none was deleted
abbrev pub carried_of : ℕ → List (List Literal) → Carried
carried_of vars cs = record {
  vars = vars;
  last = last_of (length cs);
  live = entries_from cs 1;
  ended = false;
}

-- Each step is a lesson. The clauses so far are the formula's, and then the learned ones.
pub record IsLogged (f : FormulaView) (cs : List (List Literal)) (log : List Step) : Type 0 where
  pub lessons : AllSteps IsLesson (start_of f) log
  pub carried : after_all (start_of f) log ≡ carried_of f.vars cs
  pub count : length cs ≡ length f.clauses + length log
  pub more : List (List Literal)
  pub is : cs ≡ f.clauses ++ more
