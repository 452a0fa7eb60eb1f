-- Private contracts alone cite this file: how a search begins and goes on.
use Rattle.std.specs.Prelude.{◌≡◌, ◌≢◌, ℕ, ◌+◌, Bool, true, false, List, [], ◌∷◌, ◌++◌}
use Rattle.std.specs.Prelude.{take, length, Ok}
use Rattle.dsv_cnf.specs.Literal.{Literal}
use Rattle.dsv_cnf.specs.Formula.{contains}
use Rattle.dsv_cnf.specs.FormulaView.{FormulaView}
use Rattle.dsv_cnf.specs.LiteralSet.{none}
use Rattle.dsv_hints.specs.Derivation.{hints_answer}
use Rattle.dsv_hints.specs.declared.step.Step.{Step}
use Rattle.dsv_hints.specs.declared.step.Step.TheVariants.{Add}
use Rattle.dsv_trail.specs.TrailView.{TrailView}
use Rattle.dsv_solver.specs.Logged.{IsLogged}
use Rattle.dsv_solver.specs.SeenView.{SeenView}
use Rattle.dsv_solver.specs.WatchView.{WatchView}
use Rattle.dsv_solver.specs.Walking.{live_of}
use Rattle.dsv_solver.specs.declared.state.State.{State}
use Rattle.dsv_solver.specs.Propagation.{IsReady, IsJustified, IsConflict}

-- the first clauses of a formula
abbrev pub first_clauses : FormulaView → ℕ → FormulaView
first_clauses f i = record { vars = f.vars; clauses = take i f.clauses }

-- the first clauses are watched, at level 0, and nothing is propagated yet
pub record IsBegun (f : FormulaView) (t : TrailView) (w : WatchView) (i : ℕ) : Type 0 where
  pub ready : IsReady (first_clauses f i) t w 0
  pub zero_level : t.limits ≡ []

-- a clause is false at level 0
pub record IsStuck (f : FormulaView) (t : TrailView) (i : ℕ) : Type 0 where
  pub vars : t.vars ≡ f.vars
  pub justified : IsJustified f.clauses t
  pub zero_level : t.limits ≡ []
  pub conflict : IsConflict f t i

abbrev pub IsSettling : FormulaView → TrailView → WatchView → ℕ → Bool → Type 0
IsSettling f t w i true = IsBegun f t w (i + 1)
IsSettling f t w i false = IsStuck f t i

-- another literal of a clause
pub record IsOther (c : List Literal) (first other : Literal) : Type 0 where
  pub stands : contains c other ≡ true
  pub apart : other ≢ first

pub record AreAllOne (c : List Literal) (first : Literal) : Type 0 where
  pub same : (q : Literal) → contains c q ≡ true → q ≡ first

-- the state of a search: the formula's clauses and the learned ones, and the log
pub record IsSearching (f g : FormulaView) (t : TrailView) (w : WatchView) (head : ℕ)
    (log : List Step) : Type 0 where
  pub ready : IsReady g t w head
  pub logged : IsLogged f g.clauses log
  pub vars : g.vars ≡ f.vars

-- a search over the formula before its first clause is watched
pub record IsNewSearch (f : FormulaView) (s : State) (seen : SeenView)
    (log : List Step) : Type 0 where
  pub clauses : s.clauses ≡ f
  pub begun : IsBegun f s.trail s.watches 0
  pub head : s.head ≡ 0
  pub seen_vars : seen.vars ≡ s.trail.vars
  pub log_is : log ≡ []

-- the log of a search and the refutation after it
pub record IsRefuted (g : FormulaView) (log new : List Step) : Type 0 where
  pub hints : List ℕ
  pub derived : hints_answer (live_of g) hints none ≡ Ok tt
  pub log_is : new ≡ log ++ Add (length g.clauses + 1) [] hints ∷ []
