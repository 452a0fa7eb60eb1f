-- Derivations of clauses by hints, as in LRAT without its negative hints.
use Rattle.std.specs.Prelude.{ℕ, ◌+◌, Bool, true, false, not, ◌&&◌, List}
use Rattle.std.specs.Prelude.{[], ◌∷◌, ◌++◌, cond, nat_lt, Option, Some}
use Rattle.std.specs.Prelude.{None, Result, Ok, Err, is_some, ◌==◌, length}
use Rattle.std.specs.List.{filter}
use Rattle.dsv_cnf.specs.Literal.{Literal, negation}
use Rattle.dsv_cnf.specs.FormulaView.{FormulaView}
use Rattle.dsv_cnf.specs.LiteralSet.{none, with}
use Rattle.dsv_hints.specs.Clauses.{with_all, outside, only, is_tautology, is_over}
use Rattle.dsv_hints.specs.declared.step.Step.{Step}
use Rattle.dsv_hints.specs.declared.step.Step.TheVariants.{Add, Delete}
use Rattle.dsv_hints.specs.declared.step.StepRefusal.{StepRefusal}
use Rattle.dsv_hints.specs.declared.step.StepRefusal.TheVariants.{UnknownId, NotUnit, NoConflict}
use Rattle.dsv_hints.specs.declared.step.StepRefusal.TheVariants.{NotEmpty, IdOrder, Tautology}
use Rattle.dsv_hints.specs.declared.step.StepRefusal.TheVariants.{Literal as OtherVariable}
use Rattle.dsv_hints.specs.declared.hints.Move.{Move}
use Rattle.dsv_hints.specs.declared.hints.Move.TheVariants.{Ends, Makes, Stuck}
use Rattle.dsv_hints.specs.declared.step.Verdict.{Verdict}
use Rattle.dsv_hints.specs.declared.step.Verdict.TheVariants.{Accepted, Refused}

-- ---- what is carried along a log

-- a live clause and its id
pub record Entry : Type 0 where
  pub id : ℕ
  pub clause : List Literal

-- how many variables there are, the greatest id of a clause so far, the live clauses in the order
-- of their ids, and whether the empty clause was added
pub record Carried : Type 0 where
  pub vars : ℕ
  pub last : Option ℕ
  pub live : List Entry
  pub ended : Bool

-- the live clause of this id
abbrev pub live_clause : List Entry → ℕ → Option (List Literal)
live_clause [] id = None
live_clause (e ∷ es) id = cond (e.id == id) (Some e.clause) (live_clause es id)

abbrev pub is_live : List Entry → ℕ → Bool
is_live live id = is_some (live_clause live id)

abbrev pub all_live : List Entry → List ℕ → Bool
all_live live [] = true
all_live live (id ∷ ids) = is_live live id && all_live live ids

-- the live clauses without one
abbrev pub without : List Entry → ℕ → List Entry
without live id = filter (λ e. not (e.id == id)) live

abbrev pub without_all : List Entry → List ℕ → List Entry
without_all live [] = live
without_all live (id ∷ ids) = without_all (without live id) ids

-- the id is greater than each id so far
abbrev pub is_after : Option ℕ → ℕ → Bool
is_after None id = true
is_after (Some last) id = nat_lt last id

-- ---- hints

-- What a hinted clause does, given its literals that are not false: with none it ends the step.
-- With one, open as its negation is not false, it makes that one true.
abbrev pub move_of : (Literal → Bool) → List Literal → Move
move_of set [] = Ends
move_of set (l ∷ ls) = cond (only l ls && not (set (negation l))) (Makes l) Stuck

-- the answer after such a clause, given the hints after it and the answer with one more literal
-- true
abbrev pub after_move : Move → List ℕ → (Literal → Result (Unit {0}) StepRefusal)
    → Result (Unit {0}) StepRefusal
after_move Ends [] next = Ok tt
after_move Ends (h ∷ hs) next = Err NotUnit
after_move (Makes l) hs next = next l
after_move Stuck hs next = Err NotUnit

abbrev pub after_clause : (Literal → Bool) → Option (List Literal) → List ℕ
    → (Literal → Result (Unit {0}) StepRefusal) → Result (Unit {0}) StepRefusal
after_clause set None hs next = Err UnknownId
after_clause set (Some c) hs next = after_move (move_of set (outside set c)) hs next

-- the answer to hints, where the literals of the set are false
abbrev pub hints_answer : List Entry → List ℕ → (Literal → Bool) → Result (Unit {0}) StepRefusal
hints_answer live [] set = Err NoConflict
hints_answer live (h ∷ hs) set =
    after_clause set (live_clause live h) hs (λ l. hints_answer live hs (with (negation l) set))

-- ---- steps

-- refused for this reason where the test says so
abbrev pub refused_if : Bool → StepRefusal → Result (Unit {0}) StepRefusal
    → Result (Unit {0}) StepRefusal
refused_if b why rest = cond b (Err why) rest

-- the answer to an added clause after the test for the end
abbrev pub clause_answer : ℕ → Option ℕ → List Entry → ℕ → List Literal → List ℕ
    → Result (Unit {0}) StepRefusal
clause_answer vars last live id c hints =
    refused_if (not (is_after last id)) IdOrder
    (refused_if (not (is_over vars c)) OtherVariable
    (refused_if (is_tautology c) Tautology
    (hints_answer live hints (with_all c none))))

-- the answer to a step: its first refusal, or none
abbrev pub step_answer : Carried → Step → Result (Unit {0}) StepRefusal
step_answer s (Add id c hints) =
    refused_if s.ended NotEmpty (clause_answer s.vars s.last s.live id c hints)
step_answer s (Delete id ids) =
    refused_if s.ended NotEmpty (refused_if (not (all_live s.live ids)) UnknownId (Ok tt))

abbrev pub is_empty : List Literal → Bool
is_empty [] = true
is_empty (l ∷ ls) = false

-- what is carried on after a step that was taken
abbrev pub after : Carried → Step → Carried
after s (Add id c hints) =
    record {
      vars = s.vars;
      last = Some id;
      live = s.live ++ record { id = id; clause = c } ∷ [];
      ended = is_empty c;
    }
after s (Delete id ids) = record s { live = without_all s.live ids }

-- how many literals a step adds
abbrev pub added_literals : Step → ℕ
added_literals (Add id c hints) = length c
added_literals (Delete id ids) = 0

-- ---- logs

-- the clauses, numbered from an id on
abbrev pub entries_from : List (List Literal) → ℕ → List Entry
entries_from [] id = []
entries_from (c ∷ cs) id = record { id = id; clause = c } ∷ entries_from cs (id + 1)

-- the last of n ids from 1 on
abbrev pub last_of : ℕ → Option ℕ
last_of n = cond (n == 0) None (Some n)

-- what a log begins with: the formula's clauses, numbered from 1
abbrev pub start_of : FormulaView → Carried
start_of f = record {
  vars = f.vars;
  last = last_of (length f.clauses);
  live = entries_from f.clauses 1;
  ended = false;
}

abbrev pub verdict_by : Result (Unit {0}) StepRefusal → ℕ → Verdict → Verdict
verdict_by (Ok taken) i rest = rest
verdict_by (Err why) i rest = Refused i why

-- the verdict on the steps that are left, the first of them with the number i
abbrev pub verdict_from : List Step → Carried → ℕ → Verdict
verdict_from [] s i = cond s.ended Accepted (Refused i NotEmpty)
verdict_from (step ∷ steps) s i =
    verdict_by (step_answer s step) i (verdict_from steps (after s step) (i + 1))

-- the verdict on a log
abbrev pub verdict_of : FormulaView → List Step → Verdict
verdict_of f log = verdict_from log (start_of f) 0
