-- Private contracts alone cite this file: what a turn of the search comes to, and all of them.
use Rattle.std.specs.Prelude.{◌≡◌, ℕ, ◌≤◌, length, Option, Some, None}
use Rattle.dsv_cnf.specs.FormulaView.{FormulaView}
use Rattle.dsv_solver.specs.Propagation.{IsReady}
use Rattle.dsv_solver.specs.Search.{IsComplete}
use Rattle.dsv_solver.specs.Logged.{IsLogged}
use Rattle.dsv_solver.specs.Learning.{HasGrown}
use Rattle.dsv_solver.specs.Solving.{IsBegun, IsStuck, IsSearching}
use Rattle.dsv_solver.specs.declared.state.State.{State}
use Rattle.dsv_solver.specs.declared.state.Search.{Search}
use Rattle.dsv_solver.specs.declared.solver.End.{End}
use Rattle.dsv_solver.specs.declared.solver.End.TheVariants.{Full, Stuck}

-- the formula's clauses, and no variable set
pub record IsNewState (f : FormulaView) (s : State) : Type 0 where
  pub clauses : s.clauses ≡ f
  pub begun : IsBegun f s.trail s.watches 0
  pub head : s.head ≡ 0
  pub vars : s.trail.vars ≡ f.vars

-- nothing was learned in between
pub record HasLearnedNone (s t : Search) : Type 0 where
  pub clauses : t.state.clauses ≡ s.state.clauses
  pub log : t.log ≡ s.log

-- a clause is false at level 0
pub record HasStuck (s t : Search) (i : ℕ) : Type 0 where
  pub same : HasLearnedNone s t
  pub stuck : IsStuck t.state.clauses t.state.trail i
  pub seen : t.seen.vars ≡ t.state.trail.vars

-- every variable has a value
pub record HasFilled (s t : Search) : Type 0 where
  pub same : HasLearnedNone s t
  pub ready : IsReady t.state.clauses t.state.trail t.state.watches t.state.head
  pub complete : IsComplete t.state.trail t.state.head

-- a clause was learned
pub record HasLearned (s t : Search) : Type 0 where
  pub ready : IsReady t.state.clauses t.state.trail t.state.watches t.state.head
  pub grown : HasGrown s.state.clauses t.state.clauses s.log t.log
  pub seen : t.seen.vars ≡ t.state.trail.vars

abbrev pub IsTurn : Search → Search → Option End → Type 0
IsTurn s t None = HasLearned s t
IsTurn s t (Some Full) = HasFilled s t
IsTurn s t (Some (Stuck i)) = HasStuck s t i

-- everything is worked through at level 0
pub record HasWorkedThrough (s t : Search) : Type 0 where
  pub same : HasLearnedNone s t
  pub ready : IsReady t.state.clauses t.state.trail t.state.watches t.state.head
  pub through : t.state.head ≡ length t.state.trail.marks

abbrev pub IsLastTurn : Search → Search → Option ℕ → Type 0
IsLastTurn s t None = HasWorkedThrough s t
IsLastTurn s t (Some i) = HasStuck s t i

abbrev pub Searches : FormulaView → Search → Type 0
Searches f s = IsSearching f s.state.clauses s.state.trail s.state.watches s.state.head s.log

-- so many clauses were learned, and everything is worked through
pub record IsUsedUp (f : FormulaView) (n : ℕ) (s : Search) : Type 0 where
  pub searching : Searches f s
  pub count : length s.log ≡ n
  pub through : s.state.head ≡ length s.state.trail.marks

pub record IsFilled (f : FormulaView) (s : Search) : Type 0 where
  pub searching : Searches f s
  pub complete : IsComplete s.state.trail s.state.head

pub record IsRefutable (f : FormulaView) (n : ℕ) (s : Search) (i : ℕ) : Type 0 where
  pub logged : IsLogged f s.state.clauses.clauses s.log
  pub few : length s.log ≤ n
  pub stuck : IsStuck s.state.clauses s.state.trail i
  pub seen : s.seen.vars ≡ s.state.trail.vars

-- what a search over the formula comes to, within so many lessons
abbrev pub HasEnded : FormulaView → ℕ → Search → Option End → Type 0
HasEnded f n s None = IsUsedUp f n s
HasEnded f n s (Some Full) = IsFilled f s
HasEnded f n s (Some (Stuck i)) = IsRefutable f n s i
