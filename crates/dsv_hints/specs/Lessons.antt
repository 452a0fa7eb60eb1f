-- The logs that a clause-learning solver writes.
use Rattle.std.specs.Prelude.{◌≡◌, ℕ, ◌+◌, ◌≤◌, false, List, [], ◌∷◌, length, Ok}
use Rattle.dsv_cnf.specs.FormulaView.{FormulaView}
use Rattle.dsv_cnf.specs.LiteralSet.{none}
use Rattle.dsv_hints.specs.Derivation.{Carried, Entry, step_answer, after, start_of}
use Rattle.dsv_hints.specs.Derivation.{hints_answer, is_empty, verdict_of}
use Rattle.dsv_hints.specs.Local.{IsLocal, IsNoSuperset}
use Rattle.dsv_hints.specs.declared.step.Step.{Step}
use Rattle.dsv_hints.specs.declared.step.Step.TheVariants.{Add, Delete}
use Rattle.dsv_hints.specs.declared.step.Verdict.TheVariants.{Accepted}

-- what is carried after some steps
abbrev pub after_all : Carried → List Step → Carried
after_all s [] = s
after_all s (step ∷ steps) = after_all (after s step) steps

-- each step has the fact, with what is carried when it comes
abbrev pub AllSteps : (Carried → Step → Type 0) → Carried → List Step → Type 0
AllSteps P s [] = Unit {0}
AllSteps P s (step ∷ steps) = P s step × AllSteps P (after s step) steps

-- ---- steps

-- the step deletes nothing
abbrev pub IsAddition : Carried → Step → Type 0
IsAddition s (Add id c hints) = Unit {0}
IsAddition s (Delete id ids) = ⊥

-- the step adds a clause that isn't empty, and that is a consequence by its hints in its place
abbrev pub IsDerived : Carried → Step → Type 0
IsDerived s (Add id c hints) = (step_answer s (Add id c hints) ≡ Ok tt) × (is_empty c ≡ false)
IsDerived s (Delete id ids) = ⊥

-- the clause that the step adds is local, unless it is empty
abbrev pub IsLocalStep : Carried → Step → Type 0
IsLocalStep s (Add id c hints) = is_empty c ≡ false → IsLocal s.live c hints
IsLocalStep s (Delete id ids) = Unit {0}

-- the clause that the step adds is no superset of a clause that is live then
abbrev pub IsNew : Carried → Step → Type 0
IsNew s (Add id c hints) = IsNoSuperset s.live c
IsNew s (Delete id ids) = Unit {0}

-- a step of a learned clause: all of these
pub record IsLesson (s : Carried) (step : Step) : Type 0 where
  pub addition : IsAddition s step
  pub derived : IsDerived s step
  pub is_local : IsLocalStep s step
  pub is_new : IsNew s step

-- ---- logs

-- these hints derive the empty clause
abbrev pub Refutes : List Entry → List ℕ → Type 0
Refutes live hints = hints_answer live hints none ≡ Ok tt

-- The log of a search that found no model: it is accepted, so the formula is unsatisfiable.
pub record IsRefutation (f : FormulaView) (conflicts : ℕ) (log : List Step) : Type 0 where
  pub accepted : verdict_of f log ≡ Accepted
  pub additions : AllSteps IsAddition (start_of f) log
  pub are_local : AllSteps IsLocalStep (start_of f) log
  pub few : length log ≤ conflicts + 1

-- The log of a search that gave up after so many clauses: no hints derive the empty clause after
-- it.
pub record IsSpent (f : FormulaView) (conflicts : ℕ) (log : List Step) : Type 0 where
  pub count : length log ≡ conflicts
  pub additions : AllSteps IsAddition (start_of f) log
  pub derived : AllSteps IsDerived (start_of f) log
  pub are_new : AllSteps IsNew (start_of f) log
  pub are_local : AllSteps IsLocalStep (start_of f) log
  pub no_more : (hints : List ℕ) → Refutes (after_all (start_of f) log).live hints → ⊥
