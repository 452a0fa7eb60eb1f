-- Private contracts alone cite this file: lessons, and what the search keeps of them.
use Rattle.std.specs.Prelude.{◌≡◌, ℕ, ◌-◌, List, [], ◌∷◌, ◌⊎◌}
use Rattle.std.specs.Prelude.{length, slice_get, Some, take, ◌+◌}
use Rattle.std.specs.Prelude.{◌++◌, false, Ok}
use Rattle.dsv_cnf.specs.Literal.{Literal}
use Rattle.dsv_cnf.specs.Formula.{IsOver}
use Rattle.dsv_cnf.specs.FormulaView.{FormulaView}
use Rattle.dsv_trail.specs.TrailView.{TrailView}
use Rattle.dsv_trail.specs.Places.{falsifies, place_of}
use Rattle.dsv_cnf.specs.LiteralSet.{none}
use Rattle.dsv_hints.specs.Clauses.{with_all, is_tautology}
use Rattle.dsv_hints.specs.Derivation.{hints_answer, is_empty}
use Rattle.dsv_hints.specs.declared.step.Step.{Step}
use Rattle.dsv_hints.specs.declared.step.Step.TheVariants.{Add}
use Rattle.dsv_hints.specs.Local.{IsLocal, IsNoSuperset}
use Rattle.dsv_solver.specs.Walking.{Fines, IsLearnable, live_of}
use Rattle.dsv_solver.specs.Search.{IsLast}
use Rattle.dsv_trail.specs.Levels.{IsLevelOf}
use Rattle.dsv_solver.specs.Watched.{IsPairOver}
use Rattle.dsv_solver.specs.Back.{back, IsLearned}
use Rattle.dsv_solver.specs.declared.watches.Pair.{Pair}

-- a lesson of the present level
pub record HasLesson (f : FormulaView) (t : TrailView) (clause : List Literal)
    (hints : List ℕ) : Type 0 where
  pub high : ℕ
  pub top : slice_get t.limits (length t.limits - 1) ≡ Some high
  pub fine : Fines f (falsifies (take high t.marks))
  pub lesson : IsLearnable f t high clause hints
  pub over : IsOver f.vars clause

-- which literals are watched, and the level to go back to
pub record IsPlan (t : TrailView) (clause : List Literal) (pair : Pair) (level : ℕ) : Type 0 where
  pub rest : List Literal
  pub is : clause ≡ pair.one ∷ rest
  pub which : ((rest ≡ []) × (pair.other ≡ pair.one) × (level
      ≡ 0)) ⊎ (IsLast t rest pair.other × IsLevelOf t.limits (place_of t.marks pair.other) level)

pub record WillLearn (t : TrailView) (clause : List Literal) (pair : Pair)
    (level : ℕ) : Type 0 where
  pub learned : (k : ℕ) → slice_get t.limits level ≡ Some k → IsLearned (back t level k) clause pair
  pub over : IsPairOver t.vars pair

-- one lesson more, in the clauses and in the log
pub record HasGrown (f g : FormulaView) (log new : List Step) : Type 0 where
  pub clause : List Literal
  pub hints : List ℕ
  pub clauses : g ≡ record f { clauses = f.clauses ++ clause ∷ [] }
  pub log_is : new ≡ log ++ Add (length f.clauses + 1) clause hints ∷ []
  pub over : IsOver f.vars clause
  pub plain : is_tautology clause ≡ false
  pub some : is_empty clause ≡ false
  pub derived : hints_answer (live_of f) hints (with_all clause none) ≡ Ok tt
  pub is_local : IsLocal (live_of f) clause hints
  pub is_new : IsNoSuperset (live_of f) clause
