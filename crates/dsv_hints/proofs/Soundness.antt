-- What a step that is taken keeps, and that a whole derivation refutes.
use Rattle.std.proofs.Common.{◌≡◌, ℕ, ◌+◌, Bool, true, false, not, ◌||◌, ◌&&◌, ◌==◌, List, [], ◌∷◌, ◌++◌, Option, Some, None, Result, Ok, Err, OnOk, cond, refl, ap, sym, ◌∙◌, inl, inr}
use Rattle.dsv_cnf.specs.Literal.{Literal, literal_eq, negation, literal_value}
use Rattle.dsv_cnf.specs.Formula.{clause_value, Satisfies}
use Rattle.dsv_cnf.specs.FormulaView.{FormulaView}
use Rattle.dsv_cnf.proofs.LiteralLemmas.{or_cases, same_literal, literal_eq-same, value-negation}
use Rattle.dsv_cnf.specs.LiteralSet.{none, with}
use Rattle.dsv_hints.specs.Clauses.{with_all, outside, only, is_over, is_tautology}
use Rattle.dsv_hints.specs.Derivation.{Entry, Carried, live_clause, without, without_all, is_after, move_of, after_move, after_clause, hints_answer, refused_if, is_empty, entries_from, start_of}
use Rattle.dsv_hints.specs.Follows.{clauses_of, Follows}
use Rattle.dsv_hints.specs.Taken.{clause_answer_of, after_add, after_delete}
use Rattle.dsv_hints.specs.CheckerView.{CheckerView}
use Rattle.dsv_hints.specs.declared.hints.Move.TheVariants.{Makes, Stuck}
use Rattle.dsv_hints.specs.declared.step.StepRefusal.{StepRefusal}
use Rattle.dsv_hints.specs.declared.step.StepRefusal.TheVariants.{IdOrder, Tautology, Literal as OtherVariable}
use Rattle.dsv_algebra.proofs.Booleans.{and_left, and_right}

-- ---- false literals

-- every literal of the set is false
abbrev pub AllFalse : (ℕ → Bool) → (Literal → Bool) → Type 0
AllFalse v set = (m : Literal) → set m ≡ true → literal_value v m ≡ false

false-with : (v : ℕ → Bool) (l : Literal) (set : Literal → Bool) → literal_value v l ≡ false → AllFalse v set → AllFalse v (with l set)
false-with v l set h f = λ m t. elim (or_cases (literal_eq l m) (set m) t) [ inl p ↦ ap (literal_value v) (sym (same_literal l m p)) ∙ h | inr q ↦ f m q ]

or_false_left : (a b : Bool) → (a || b) ≡ false → a ≡ false
or_false_left true b h = h
or_false_left false b h = refl

or_false_right : (a b : Bool) → (a || b) ≡ false → b ≡ false
or_false_right true b h = cc
or_false_right false b h = h

false-with_all : (v : ℕ → Bool) (c : List Literal) (set : Literal → Bool) → clause_value v c ≡ false → AllFalse v set → AllFalse v (with_all c set)
false-with_all v [] set h f = f
false-with_all v (l ∷ ls) set h f =
    false-with_all v ls (with l set) (or_false_right (literal_value v l) (clause_value v ls) h) (false-with v l set (or_false_left (literal_value v l) (clause_value v ls) h) f)

value_cond : (v : ℕ → Bool) (rest ls : List Literal) (l : Literal) (b : Bool) → (b ≡ true → literal_value v l ≡ false) → clause_value v rest ≡ clause_value v ls → clause_value v (cond b rest (l ∷ rest)) ≡ clause_value v (l ∷ ls)
value_cond v rest ls l true f h = rw (f refl) h
value_cond v rest ls l false f h = ap (λ x. literal_value v l || x) h

-- literals that are false don't count
value-outside : (v : ℕ → Bool) (set : Literal → Bool) (c : List Literal) → AllFalse v set → clause_value v (outside set c) ≡ clause_value v c
value-outside v set [] f = refl
value-outside v set (l ∷ ls) f = value_cond v (outside set ls) ls l (set l) (f l) (value-outside v set ls f)

-- a clause with one literal is that literal
value-only : (v : ℕ → Bool) (l : Literal) (ls : List Literal) → only l ls ≡ true → clause_value v ls ≡ true → literal_value v l ≡ true
value-only v l [] h e = cc
value-only v l (m ∷ ms) h e =
    elim (or_cases (literal_value v m) (clause_value v ms) e) [
      | inl p ↦ ap (literal_value v) (same_literal l m (and_left (literal_eq l m) (only l ms) h)) ∙ p
      | inr q ↦ value-only v l ms (and_right (literal_eq l m) (only l ms) h) q
    ]

-- ---- hints

live_cond : (v : ℕ → Bool) (e c : List Literal) (o : Option (List Literal)) (b : Bool) → clause_value v e ≡ true → (o ≡ Some c → clause_value v c ≡ true) → cond b (Some e) o ≡ Some c → clause_value v c ≡ true
live_cond v e c o true h k q = let same : e ≡ c = cc in rw (← same) h
live_cond v e c o false h k q = k q

live-true : (v : ℕ → Bool) (es : List Entry) (id : ℕ) (c : List Literal) → Satisfies v (clauses_of es) → live_clause es id ≡ Some c → clause_value v c ≡ true
live-true v [] id c h q = cc
live-true v (e ∷ es) id c h q = live_cond v e.clause c (live_clause es id) (e.id == id) h.0 (live-true v es id c h.1) q

by_test : (v : ℕ → Bool) (hs : List ℕ) (next : Literal → Result (Unit {0}) StepRefusal) (l : Literal) (b : Bool) → (b ≡ true → literal_value v l ≡ true) → ((m : Literal) → literal_value v m ≡ true → next m ≡ Ok tt → ⊥) → after_move (cond b (Makes l) Stuck) hs next ≡ Ok tt → ⊥
by_test v hs next l true t k q = k l (t refl) q
by_test v hs next l false t k q = cc

by_outside : (v : ℕ → Bool) (set : Literal → Bool) (hs : List ℕ) (next : Literal → Result (Unit {0}) StepRefusal) (out : List Literal) → clause_value v out ≡ true → ((m : Literal) → literal_value v m ≡ true → next m ≡ Ok tt → ⊥) → after_move (move_of set out) hs next ≡ Ok tt → ⊥
by_outside v set hs next [] t k q = cc
by_outside v set hs next (l ∷ ls) t k q =
    by_test v hs next l (only l ls && not (set (negation l)))
    (λ h. value-only v l (l ∷ ls) (let o = and_left (only l ls) (not (set (negation l))) h in rw (literal_eq-same l) o) t) k q

by_clause : (v : ℕ → Bool) (set : Literal → Bool) (hs : List ℕ) (next : Literal → Result (Unit {0}) StepRefusal) (o : Option (List Literal)) → ((c : List Literal) → o ≡ Some c → clause_value v c ≡ true) → AllFalse v set → ((m : Literal) → literal_value v m ≡ true → next m ≡ Ok tt → ⊥) → after_clause set o hs next ≡ Ok tt → ⊥
by_clause v set hs next None t f k q = cc
by_clause v set hs next (Some c) t f k q = by_outside v set hs next (outside set c) (value-outside v set c f ∙ t c refl) k q

-- where the live clauses are true and these literals false, no hints end in a false clause
pub hints-sound : (v : ℕ → Bool) (live : List Entry) (hs : List ℕ) (set : Literal → Bool) → Satisfies v (clauses_of live) → AllFalse v set → hints_answer live hs set ≡ Ok tt → ⊥
hints-sound v live [] set a f q = cc
hints-sound v live (h ∷ hs) set a f q =
    by_clause v set hs (λ l. hints_answer live hs (with (negation l) set)) (live_clause live h) (λ c. live-true v live h c a) f
    (λ m t r. hints-sound v live hs (with (negation m) set) a (false-with v (negation m) set (value-negation v m t) f) r) q

true_or : (b : Bool) → (b ≡ false → ⊥) → b ≡ true
true_or true h = refl
true_or false h = absurd (h refl)

-- ---- steps

pub passed : (b : Bool) (why : StepRefusal) (rest : Result (Unit {0}) StepRefusal) → refused_if b why rest ≡ Ok tt → (b ≡ false) × (rest ≡ Ok tt)
passed true why rest q = cc
passed false why rest q = (refl, q)

-- an added clause is a consequence of the live ones
pub clause-sound : (v : ℕ → Bool) (s : Carried) (id : ℕ) (c : List Literal) (hs : List ℕ) → Satisfies v (clauses_of s.live) → clause_answer_of s id c hs ≡ Ok tt → clause_value v c ≡ true
clause-sound v s id c hs a q =
    let hinted = hints_answer s.live hs (with_all c none) in
    let untaut = refused_if (is_tautology c) Tautology hinted in
    let q1 = passed (not (is_after s.last id)) IdOrder (refused_if (not (is_over s.vars c)) OtherVariable untaut) q in
    let q2 = passed (not (is_over s.vars c)) OtherVariable untaut q1.1 in
    let q3 = passed (is_tautology c) Tautology hinted q2.1 in
    true_or (clause_value v c) (λ h. hints-sound v s.live hs (with_all c none) a (false-with_all v c none h (λ m t. cc)) q3.1)

push-true : (v : ℕ → Bool) (es : List Entry) (e : Entry) → Satisfies v (clauses_of es) → clause_value v e.clause ≡ true → Satisfies v (clauses_of (es ++ e ∷ []))
push-true v [] e a t = (t, tt)
push-true v (d ∷ ds) e a t = (a.0, push-true v ds e a.1 t)

without_cond : (v : ℕ → Bool) (e : Entry) (es : List Entry) (b : Bool) → clause_value v e.clause ≡ true → Satisfies v (clauses_of es) → Satisfies v (clauses_of (cond b (e ∷ es) es))
without_cond v e es true t a = (t, a)
without_cond v e es false t a = a

without-true : (v : ℕ → Bool) (es : List Entry) (id : ℕ) → Satisfies v (clauses_of es) → Satisfies v (clauses_of (without es id))
without-true v [] id a = tt
without-true v (e ∷ es) id a = without_cond v e (without es id) (not (e.id == id)) a.0 (without-true v es id a.1)

without_all-true : (v : ℕ → Bool) (es : List Entry) (ids : List ℕ) → Satisfies v (clauses_of es) → Satisfies v (clauses_of (without_all es ids))
without_all-true v es [] a = a
without_all-true v es (id ∷ ids) a = without_all-true v (without es id) ids (without-true v es id a)

empty-false : (v : ℕ → Bool) (c : List Literal) → is_empty c ≡ true → clause_value v c ≡ false
empty-false v [] h = refl
empty-false v (l ∷ ls) h = cc

pub add-follows : (cs : List (List Literal)) (s : Carried) (id : ℕ) (c : List Literal) (hs : List ℕ) → clause_answer_of s id c hs ≡ Ok tt → Follows cs s
    → Follows cs (record { vars = s.vars; last = Some id; live = s.live ++ record { id = id; clause = c } ∷ []; ended = is_empty c })
add-follows cs s id c hs q f = record {
  live = λ v h. push-true v s.live (record { id = id; clause = c }) (f.live v h) (clause-sound v s id c hs (f.live v h) q);
  ended = λ e v h. let t = clause-sound v s id c hs (f.live v h) q in let n = empty-false v c e in cc;
}

pub delete-follows : (cs : List (List Literal)) (s : Carried) (ids : List ℕ) → Follows cs s → Follows cs (record s { live = without_all s.live ids })
delete-follows cs s ids f = record { live = λ v h. without_all-true v s.live ids (f.live v h); ended = f.ended }

-- ---- the start

entries-true : (v : ℕ → Bool) (cs : List (List Literal)) (id : ℕ) → Satisfies v cs → Satisfies v (clauses_of (entries_from cs id))
entries-true v [] id h = tt
entries-true v (c ∷ cs) id h = (h.0, entries-true v cs (id + 1) h.1)

pub start-follows : (f : FormulaView) → Follows f.clauses (start_of f)
start-follows f = record { live = λ v h. entries-true v f.clauses 1 h; ended = λ e. cc }

-- ---- the answers of a checker

pub on-add : (r : Result (Unit {0}) StepRefusal) (old new : CheckerView) (id : ℕ) (c : List Literal) (hs : List ℕ) → r ≡ clause_answer_of old.carried id c hs → OnOk r (new ≡ after_add old id c)
    → OnOk r ((cs : List (List Literal)) → Follows cs old.carried → Follows cs new.carried)
on-add (Ok u) old new id c hs q t = λ cs f. rw t (add-follows cs old.carried id c hs (sym q) f)
on-add (Err why) old new id c hs q t = tt

pub on-delete : (r : Result (Unit {0}) StepRefusal) (old new : CheckerView) (ids : List ℕ) → OnOk r (new ≡ after_delete old ids)
    → OnOk r ((cs : List (List Literal)) → Follows cs old.carried → Follows cs new.carried)
on-delete (Ok u) old new ids t = λ cs f. rw t (delete-follows cs old.carried ids f)
on-delete (Err why) old new ids t = tt
