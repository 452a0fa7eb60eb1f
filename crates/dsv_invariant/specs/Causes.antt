-- What is found of a candidate, over the written equations of a quantised controller.
use Rattle.std.specs.Prelude.{◌≡◌, ℕ, ◌≤ℤ◌, true, false, List, [], ◌∷◌, ℤ}
use Rattle.dsv_hints.specs.Lessons.{IsRefutation, IsSpent}
use Rattle.dsv_hints.specs.declared.step.Step.{Step}
use Rattle.dsv_meaning.specs.Equations.{Past, order, registers_of}
use Rattle.dsv_meaning.specs.Systems.{equations_of}
use Rattle.dsv_quantiser.specs.QuantisedView.{QuantisedView}
use Rattle.dsv_system.specs.Breaks.{Breaks, IsFirstBreak}
use Rattle.dsv_system.specs.Systems.{rows, behaviour_of}
use Rattle.dsv_template.specs.declared.candidate.Candidate.{Candidate}
use Rattle.dsv_template.specs.declared.verdict.SetPart.{SetPart}
use Rattle.dsv_template.specs.declared.verdict.SetPart.TheVariants as part
use Rattle.dsv_template.specs.declared.verdict.ThreeLogs.{ThreeLogs}
use Rattle.dsv_template.specs.declared.verdict.Why.{Why}
use Rattle.dsv_template.specs.declared.verdict.Why.TheVariants as why
use Rattle.dsv_template.specs.Candidates.{IsInSet, is_shaped}
use Rattle.dsv_template.specs.Kept.{IsState, Begins, Stays, IsSafe, IsKept}
use Rattle.dsv_template.specs.Kept.{LeavesEarly, LeavesLater}
use Rattle.dsv_invariant.specs.Formulas.{set_formula_of}

-- ---- sentences
-- the sentence of a part, for the controller's written equations
abbrev pub Holds : QuantisedView → Candidate → SetPart → Type 0
Holds q candidate part.Base = Begins Past (equations_of q) q.xlo q.xhi candidate
Holds q candidate part.Step = Stays Past (equations_of q) q.xlo q.xhi candidate
Holds q candidate part.Safe = IsSafe Past (equations_of q) q.xlo q.xhi candidate

-- the sentences before a part's hold
abbrev pub HoldBefore : QuantisedView → Candidate → SetPart → Type 0
HoldBefore q candidate part.Base = Unit {0}
HoldBefore q candidate part.Step = Holds q candidate part.Base
HoldBefore q candidate part.Safe = Holds q candidate part.Base × Holds q candidate part.Step

-- ---- a good candidate
-- The controller keeps to the candidate's set, so no list of inputs in range, of any length, breaks
-- it. Each log is of a search with at most so many conflicts, and derives the empty clause from the
-- formula that its sentence is broken.
pub record IsGood (q : QuantisedView) (conflicts : ℕ) (candidate : Candidate) (logs : ThreeLogs) :
    Type 0 where
  pub kept : IsKept Past (equations_of q) q.xlo q.xhi candidate
  pub never : (inputs : List ℤ) → Breaks (behaviour_of (equations_of q)) q.xlo q.xhi inputs → ⊥
  pub base : IsRefutation (set_formula_of q candidate part.Base) conflicts logs.base
  pub step : IsRefutation (set_formula_of q candidate part.Step) conflicts logs.step
  pub safe : IsRefutation (set_formula_of q candidate part.Safe) conflicts logs.safe

-- ---- other causes
-- The start is in the set, and at this input in range the first exact value that is no word has
-- this number and is `exact`.
pub record IsUnsafe (q : QuantisedView) (candidate : Candidate) (start : List ℤ) (input : ℤ)
    (value : ℕ) (exact : ℤ) : Type 0 where
  pub state : IsState Past (equations_of q) start
  pub inside : IsInSet candidate start
  pub at_least : q.xlo ≤ℤ input
  pub at_most : input ≤ℤ q.xhi
  pub first : IsFirstBreak q.format (rows (equations_of q) start (input ∷ [])) 0 value exact

-- The log is that of a search in the formula of this part that gave up after so many conflicts.
abbrev pub GivesUp : QuantisedView → ℕ → Candidate → SetPart → List Step → Type 0
GivesUp q conflicts candidate part log =
    IsSpent (set_formula_of q candidate part) conflicts log

-- the candidate's numbers are as they have to be for the controller's registers
abbrev pub IsShaped : QuantisedView → Candidate → Type 0
IsShaped q candidate = is_shaped (registers_of q.realisation (order q)) candidate ≡ true

-- what is found of a candidate: the three sentences hold, or the first that isn't known to hold is
-- broken or was given up
abbrev pub IsFinding : QuantisedView → ℕ → Candidate → Why → Type 0
IsFinding q conflicts candidate (why.Good logs) = IsGood q conflicts candidate logs
IsFinding q conflicts candidate (why.Base inputs) =
    LeavesEarly Past (equations_of q) q.xlo q.xhi candidate inputs
IsFinding q conflicts candidate (why.Leaves start inputs) =
    HoldBefore q candidate part.Step
    × LeavesLater Past (equations_of q) q.xlo q.xhi candidate start inputs
IsFinding q conflicts candidate (why.Unsafe start input value exact) =
    HoldBefore q candidate part.Safe × IsUnsafe q candidate start input value exact
IsFinding q conflicts candidate (why.Spent part log) =
    HoldBefore q candidate part × GivesUp q conflicts candidate part log
IsFinding q conflicts candidate why.BadShape = ⊥

-- what is found, with the shape: the cause is that alone exactly where the numbers aren't as they
-- have to be
abbrev pub IsCause : QuantisedView → ℕ → Candidate → Why → Type 0
IsCause q conflicts candidate why.BadShape =
    is_shaped (registers_of q.realisation (order q)) candidate ≡ false
IsCause q conflicts candidate found =
    IsShaped q candidate × IsFinding q conflicts candidate found
