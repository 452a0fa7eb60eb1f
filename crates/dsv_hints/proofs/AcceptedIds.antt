-- The ids of a log that is accepted and deletes nothing are positive, as a formula's clauses are numbered from 1.
use Rattle.std.proofs.Common.{◌≡◌, ℕ, suc, ◌+◌, ◌≤◌, Bool, true, false, not, ◌==◌, cond, nat_lt, List, [], ◌∷◌, length, Option, Some, None, Result, Ok, Err, refl, arith}
use Rattle.std.specs.List.{All}
use Rattle.std.proofs.lemmas.Bool.Decides.{nat_tests}
use Rattle.std.proofs.lemmas.List.Elements.{All-nil, All-cons, All-head, All-tail, All-push}
use Rattle.dsv_cnf.specs.Literal.{Literal, negation}
use Rattle.dsv_cnf.specs.FormulaView.{FormulaView}
use Rattle.dsv_cnf.specs.LiteralSet.{none, with}
use Rattle.dsv_cnf.proofs.SetLemmas.{eqb-other}
use Rattle.dsv_hints.specs.Clauses.{with_all, outside, is_over, is_tautology}
use Rattle.dsv_hints.specs.Derivation.{Entry, Carried, live_clause, is_after, move_of, after_move, after_clause, hints_answer, refused_if, step_answer, after, entries_from, last_of, start_of, verdict_by, verdict_from, verdict_of}
use Rattle.dsv_hints.specs.Lessons.{AllSteps, IsAddition}
use Rattle.dsv_hints.specs.declared.hints.Move.{Move}
use Rattle.dsv_hints.specs.declared.hints.Move.TheVariants.{Ends, Makes, Stuck}
use Rattle.dsv_hints.specs.declared.step.Step.{Step}
use Rattle.dsv_hints.specs.declared.step.Step.TheVariants.{Add, Delete}
use Rattle.dsv_hints.specs.declared.step.StepRefusal.{StepRefusal}
use Rattle.dsv_hints.specs.declared.step.StepRefusal.TheVariants.{NotEmpty, IdOrder, Tautology, Literal as OtherVariable}
use Rattle.dsv_hints.specs.declared.step.Verdict.{Verdict}
use Rattle.dsv_hints.specs.declared.step.Verdict.TheVariants.{Accepted}
use Rattle.dsv_hints.proofs.Soundness.{passed}

abbrev pub IsPositive : ℕ → Type 0
IsPositive id = 1 ≤ id

-- a step that adds a clause, by positive ids
abbrev pub HasPositiveIds : Step → Type 0
HasPositiveIds (Add id c hints) = IsPositive id × All IsPositive hints
HasPositiveIds (Delete id ids) = ⊥

abbrev IsNumbered : Entry → Type 0
IsNumbered e = IsPositive e.id

-- The live clauses have positive ids, and there is a greatest id where there is one.
record AreNumbered (s : Carried) : Type 0 where
  live : All IsNumbered s.live
  last : s.last ≡ None → s.live ≡ []

-- ---- hints
live_cond : (b : Bool) (id : ℕ) (c : List Literal) (o p : Option (List Literal)) → (b ≡ true → IsPositive id) → (p ≡ Some c → IsPositive id) → cond b o p ≡ Some c → IsPositive id
live_cond true id c o p f g q = f refl
live_cond false id c o p f g q = g q

same_id : (n id : ℕ) → IsPositive n → (n == id) ≡ true → IsPositive id
same_id n id h e = grind (arith, nat_tests)

live_positive : (es : List Entry) (id : ℕ) (c : List Literal) → All IsNumbered es → live_clause es id ≡ Some c → IsPositive id
live_positive [] id c a q = absurd (none_found q)
  where
    none_found : None ≡ Some c → ⊥
    none_found e = cc
live_positive (e ∷ es) id c a q =
    live_cond (e.id == id) id c (Some e.clause) (live_clause es id) (same_id e.id id (All-head IsNumbered e es a)) (live_positive es id c (All-tail IsNumbered e es a)) q

refusal_apart : (why : StepRefusal) → ◌≡◌ {A = Result (Unit {0}) StepRefusal} (Err why) (Ok tt) → ⊥
refusal_apart why e = cc

by_move : (m : Move) (hs : List ℕ) (next : Literal → Result (Unit {0}) StepRefusal) → ((l : Literal) → next l ≡ Ok tt → All IsPositive hs) → after_move m hs next ≡ Ok tt → All IsPositive hs
by_move Ends [] next k q = All-nil IsPositive
by_move Ends (h ∷ hs) next k q = absurd (refusal_apart _ q)
by_move (Makes l) hs next k q = k l q
by_move Stuck hs next k q = absurd (refusal_apart _ q)

by_clause : (set : Literal → Bool) (h : ℕ) (hs : List ℕ) (next : Literal → Result (Unit {0}) StepRefusal) (o : Option (List Literal)) → ((c : List Literal) → o ≡ Some c → IsPositive h)
    → ((l : Literal) → next l ≡ Ok tt → All IsPositive hs) → after_clause set o hs next ≡ Ok tt → All IsPositive (h ∷ hs)
by_clause set h hs next None f k q = absurd (refusal_apart _ q)
by_clause set h hs next (Some c) f k q = All-cons IsPositive h hs (f c refl) (by_move (move_of set (outside set c)) hs next k q)

hints_positive : (live : List Entry) (hs : List ℕ) (set : Literal → Bool) → All IsNumbered live → hints_answer live hs set ≡ Ok tt → All IsPositive hs
hints_positive live [] set a q = All-nil IsPositive
hints_positive live (h ∷ hs) set a q =
    by_clause set h hs (λ l. hints_answer live hs (with (negation l) set)) (live_clause live h) (λ c. live_positive live h c a)
    (λ l r. hints_positive live hs (with (negation l) set) a r) q

-- ---- a step
-- no hints name a clause where none is live
none_live : (hs : List ℕ) (set : Literal → Bool) → hints_answer [] hs set ≡ Ok tt → ⊥
none_live [] set q = refusal_apart _ q
none_live (h ∷ hs) set q = refusal_apart _ q

after_some : (last id : ℕ) → nat_lt last id ≡ true → IsPositive id
after_some last id h = grind (arith, nat_tests)

id_positive : (last : Option ℕ) (live : List Entry) (id : ℕ) (hs : List ℕ) (set : Literal → Bool) → (last ≡ None → live ≡ []) → is_after last id ≡ true → hints_answer live hs set ≡ Ok tt
    → IsPositive id
id_positive None live id hs set n a q = let e : live ≡ [] = n refl in absurd (none_live hs set (rw e at q))
id_positive (Some last) live id hs set n a q = after_some last id a

is_true : (b : Bool) → not b ≡ false → b ≡ true
is_true true h = refl
is_true false h = cc

addition_positive : (s : Carried) (id : ℕ) (c : List Literal) (hs : List ℕ) → AreNumbered s → step_answer s (Add id c hs) ≡ Ok tt → HasPositiveIds (Add id c hs)
addition_positive s id c hs a q =
    let hinted = hints_answer s.live hs (with_all c none) in
    let untaut = refused_if (is_tautology c) Tautology hinted in
    let over = refused_if (not (is_over s.vars c)) OtherVariable untaut in
    let open_still = passed s.ended NotEmpty (refused_if (not (is_after s.last id)) IdOrder over) q in
    let ordered = passed (not (is_after s.last id)) IdOrder over open_still.1 in
    let known = passed (not (is_over s.vars c)) OtherVariable untaut ordered.1 in
    let derived = (passed (is_tautology c) Tautology hinted known.1).1 in
    (id_positive s.last s.live id hs (with_all c none) a.last (is_true (is_after s.last id) ordered.0) derived, hints_positive s.live hs (with_all c none) a.live derived)

addition_numbered : (s : Carried) (id : ℕ) (c : List Literal) (hs : List ℕ) → AreNumbered s → IsPositive id → AreNumbered (after s (Add id c hs))
addition_numbered s id c hs a h = record {
  live = All-push IsNumbered s.live (record { id = id; clause = c }) a.live h;
  last = λ e. cc;
}

-- ---- logs
went_on : (r : Result (Unit {0}) StepRefusal) (i : ℕ) (rest : Verdict) → verdict_by r i rest ≡ Accepted → (r ≡ Ok tt) × (rest ≡ Accepted)
went_on (Ok taken) i rest q = (refl, q)
went_on (Err why) i rest q = cc

ids_from : (log : List Step) (s t : Carried) (i : ℕ) → AreNumbered s → verdict_from log s i ≡ Accepted → AllSteps IsAddition t log → All HasPositiveIds log
ids_from [] s t i a q d = All-nil HasPositiveIds
ids_from (Add id c hs ∷ log) s t i a q d =
    let step = Add id c hs in
    let on = went_on (step_answer s step) i (verdict_from log (after s step) (i + 1)) q in
    let ids = addition_positive s id c hs a on.0 in
    All-cons HasPositiveIds step log ids (ids_from log (after s step) (after t step) (i + 1) (addition_numbered s id c hs a ids.0) on.1 d.1)
ids_from (Delete id ids ∷ log) s t i a q d = absurd d.0

entries_numbered : (cs : List (List Literal)) (id : ℕ) → IsPositive id → All IsNumbered (entries_from cs id)
entries_numbered [] id h = All-nil IsNumbered
entries_numbered (c ∷ cs) id h = All-cons IsNumbered (record { id = id; clause = c }) (entries_from cs (id + 1)) h (entries_numbered cs (id + 1) (omega arith))

some_last : (n : ℕ) → last_of (suc n) ≡ None → ⊥
some_last n e = let some : (suc n == 0) ≡ false = eqb-other (suc n) 0 (λ f. omega arith) in let g = rw some at e in cc

none_at_start : (cs : List (List Literal)) → last_of (length cs) ≡ None → entries_from cs 1 ≡ []
none_at_start [] e = refl
none_at_start (c ∷ cs) e = absurd (some_last (length cs) e)

start_numbered : (f : FormulaView) → AreNumbered (start_of f)
start_numbered f = record { live = entries_numbered f.clauses 1 (omega arith); last = none_at_start f.clauses }

pub accepted_ids : (f : FormulaView) (log : List Step) → verdict_of f log ≡ Accepted → AllSteps IsAddition (start_of f) log → All HasPositiveIds log
accepted_ids f log q d = ids_from log (start_of f) (start_of f) 0 (start_numbered f) q d
