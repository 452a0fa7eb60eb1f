-- From an analysed clause to an accepted step, and from steps to an accepted log.
use Rattle.std.proofs.Common.{◌≡◌, ℕ, ◌+◌, ◌<◌, Bool, true, false, List, [], ◌∷◌, ◌++◌, Some, Ok, refl, arith, ap, sym, ◌∙◌, length, length-append, suc, zero, nat_lt, inl, inr, ◌==◌, append_assoc}
use Rattle.std.proofs.lemmas.List.{append-nil}
use Rattle.std.proofs.lemmas.List.Elements.{All-head, All-tail}
use Rattle.std.proofs.lemmas.Bool.Decides.{nat_tests}
use Rattle.dsv_cnf.specs.Literal.{Literal, negation}
use Rattle.dsv_cnf.specs.Formula.{IsOver, contains}
use Rattle.dsv_cnf.specs.FormulaView.{FormulaView}
use Rattle.dsv_cnf.specs.LiteralSet.{none}
use Rattle.dsv_hints.specs.Clauses.{with_all, is_tautology, has_negation, is_over}
use Rattle.dsv_hints.specs.declared.step.Step.{Step}
use Rattle.dsv_hints.specs.declared.step.Step.TheVariants.{Add}
use Rattle.dsv_hints.specs.declared.step.Verdict.TheVariants.{Accepted}
use Rattle.dsv_hints.specs.Derivation.{step_answer, after, start_of, entries_from, last_of, is_after, is_empty, hints_answer, verdict_of}
use Rattle.dsv_cnf.proofs.SetLemmas.{eqb-other}
use Rattle.dsv_cnf.proofs.LiteralLemmas.{or_cases}
use Rattle.dsv_hints.specs.Local.{IsLocal, IsNoSuperset}
use Rattle.dsv_solver.specs.Logged.{carried_of, IsLogged}
use Rattle.dsv_hints.specs.Lessons.{IsDerived, IsLesson}
use Rattle.dsv_cnf.proofs.ClauseLemmas.{not_true, contains-head, contains-tail}
use Rattle.dsv_hints.proofs.MoveLemmas.{with_all-cases}
use Rattle.dsv_hints.proofs.LessonLemmas.{AllSteps-map, AllSteps-push, after_all-push, entries-push, verdict-push}

over-is : (vars : ℕ) (c : List Literal) → IsOver vars c → is_over vars c ≡ true
over-is vars [] h = refl
over-is vars (l ∷ ls) h =
    let P : Literal → Type 0 = λ m. m.var < vars in
    let first : nat_lt l.var vars ≡ true = let t = All-head P l ls h in grind (arith, nat_tests) in
    rw (first, over-is vars ls (All-tail P l ls h)) refl

after-last : (n : ℕ) → is_after (last_of n) (n + 1) ≡ true
after-last zero = refl
after-last (suc n) = let e : (suc n == 0) ≡ false = eqb-other (suc n) 0 (λ e. omega arith) in rw e (grind (arith, nat_tests))

last-more : (n : ℕ) → last_of (n + 1) ≡ Some (n + 1)
last-more n = let e : (n + 1 == 0) ≡ false = eqb-other (n + 1) 0 (λ e. omega arith) in rw e refl

negation-in : (set : Literal → Bool) (ls : List Literal) → has_negation set ls ≡ true → (l : Literal) × (contains ls l ≡ true) × (set (negation l) ≡ true)
negation-in set [] h = cc
negation-in set (l ∷ ls) h =
    elim (or_cases (set (negation l)) (has_negation set ls) h) [
      | inl a ↦ (l, contains-head l ls, a)
      | inr b ↦ let r = negation-in set ls b in (r.0, contains-tail l ls r.0 r.1, r.2)
    ]

-- a clause whose literals are all false has no literal with its negation
pub plain : (F : Literal → Bool) (c : List Literal) → ((q : Literal) → F q ≡ true → F (negation q) ≡ true → ⊥) → ((q : Literal) → contains c q ≡ true → F q ≡ true) → is_tautology c ≡ false
plain F c con all =
    not_true (is_tautology c) (λ e.
    let n = negation-in (with_all c none) c e in
    con n.0 (all n.0 n.1) (all (negation n.0) (elim (with_all-cases c none (negation n.0) n.2) [ inl i ↦ i | inr i ↦ absurd cc ])))

-- the step of an analysed clause is accepted
pub taken : (vars : ℕ) (cs : List (List Literal)) (c : List Literal) (hints : List ℕ) → IsOver vars c → is_tautology c ≡ false → hints_answer (entries_from cs 1) hints (with_all c none) ≡ Ok tt → step_answer (carried_of vars cs) (Add (length cs + 1) c hints) ≡ Ok tt
taken vars cs c hints over plainly derived = rw (after-last (length cs), over-is vars c over, plainly) derived

pub after-lesson : (vars : ℕ) (cs : List (List Literal)) (c : List Literal) (hints : List ℕ) → is_empty c ≡ false → after (carried_of vars cs) (Add (length cs + 1) c hints) ≡ carried_of vars (cs ++ c ∷ [])
after-lesson vars cs c hints e =
    let n : length (cs ++ c ∷ []) ≡ length cs + 1 = length-append cs (c ∷ []) in
    let i : 1 + length cs ≡ length cs + 1 = omega arith in
    let es : entries_from (cs ++ c ∷ []) 1 ≡ entries_from cs 1 ++ record { id = length cs + 1; clause = c } ∷ [] = entries-push cs c 1 ∙ ap (λ k. entries_from cs 1 ++ record { id = k; clause = c } ∷ []) i in
    rw (e, es, n, last-more (length cs)) refl

pub begun : (f : FormulaView) → IsLogged f f.clauses []
begun f = record { lessons = tt; carried = refl; count = omega arith; more = []; is = sym (append-nil f.clauses) }

-- one lesson more
pub learned : (f : FormulaView) (cs : List (List Literal)) (log : List Step) (c : List Literal) (hints : List ℕ) → IsLogged f cs log → IsOver f.vars c → is_tautology c ≡ false → is_empty c ≡ false
    → hints_answer (entries_from cs 1) hints (with_all c none) ≡ Ok tt → IsLocal (entries_from cs 1) c hints → IsNoSuperset (entries_from cs 1) c
    → IsLogged f (cs ++ c ∷ []) (log ++ Add (length cs + 1) c hints ∷ [])
learned f cs log c hints l over plainly some derived loc new =
    let lesson : IsLesson (carried_of f.vars cs) (Add (length cs + 1) c hints) = record {
      addition = tt;
      derived = (taken f.vars cs c hints over plainly derived, some);
      is_local = λ e. loc;
      is_new = new;
    } in
    record {
      lessons = AllSteps-push IsLesson (start_of f) log (Add (length cs + 1) c hints) l.lessons (rw l.carried lesson);
      carried = after_all-push (start_of f) log (Add (length cs + 1) c hints) ∙ (ap (λ s. after s (Add (length cs + 1) c hints)) l.carried ∙ after-lesson f.vars cs c hints some);
      count = omega (arith, l.count, length-append cs (c ∷ []), length-append log (Add (length cs + 1) c hints ∷ []));
      more = l.more ++ c ∷ [];
      is = ap (λ ds. ds ++ c ∷ []) l.is ∙ append_assoc f.clauses l.more (c ∷ []);
    }

-- hints that refute after it: the whole log is accepted
pub ended : (f : FormulaView) (cs : List (List Literal)) (log : List Step) (hints : List ℕ) → IsLogged f cs log → hints_answer (entries_from cs 1) hints none ≡ Ok tt
    → verdict_of f (log ++ Add (length cs + 1) [] hints ∷ []) ≡ Accepted
ended f cs log hints l derived =
    let last : step_answer (carried_of f.vars cs) (Add (length cs + 1) [] hints) ≡ Ok tt = rw (after-last (length cs)) derived in
    verdict-push (start_of f) log (Add (length cs + 1) [] hints) 0 (AllSteps-map IsLesson IsDerived (λ s x y. y.derived) (start_of f) log l.lessons) (rw l.carried last) refl
