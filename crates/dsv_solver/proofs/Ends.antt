use Rattle.std.proofs.Common.{◌≡◌, ℕ, Bool, true, false, cond, List, [], ◌∷◌, refl, arith, inl, inr, ◌⊎◌, reverse}
use Rattle.std.proofs.lemmas.Bool.Decides.{nat_tests}
use Rattle.std.proofs.lemmas.List.{reverse-append}
use Rattle.dsv_cnf.specs.Formula.{IsOver, contains}
use Rattle.dsv_cnf.specs.FormulaView.{FormulaView}
use Rattle.dsv_solver.specs.Walking.{IsEnding, IsLearnable, live_of}
use Rattle.dsv_solver.specs.Propagation.{IsJustified}
use Rattle.dsv_solver.proofs.Walks.{IsClause, end-accepts, end-local, end-learned}
use Rattle.dsv_cnf.proofs.ClauseLemmas.{contains-push, contains-push_left, contains-push_new, IsOver-head, IsOver-tail, contains-head, contains-tail, contains-cases}
use Rattle.dsv_solver.specs.Analysis.{AllFalse, is_low, low_literals}
use Rattle.dsv_cnf.specs.Literal.{Literal}
use Rattle.dsv_trail.specs.TrailView.{TrailView}
use Rattle.dsv_trail.specs.Places.{falsifies}
use Rattle.dsv_solver.specs.Walk.{IsLow}

low-true : (t : TrailView) (z h : ℕ) (q : Literal) → is_low t z h q ≡ true → IsLow t z h q
low-true t z h q e = (grind (arith, nat_tests), grind (arith, nat_tests))

low-is : (t : TrailView) (z h : ℕ) (q : Literal) → IsLow t z h q → is_low t z h q ≡ true
low-is t z h q (a, b) = grind (arith, nat_tests)

in_cond : (t : TrailView) (z h : ℕ) (m q : Literal) (rest : List Literal) (b : Bool) → contains (cond b (m ∷ rest) rest) q ≡ true → ((b ≡ true) × (q ≡ m)) ⊎ (contains rest q ≡ true)
in_cond t z h m q rest true e = elim (contains-cases m rest q e) [ inl x ↦ inl (refl, x) | inr y ↦ inr y ]
in_cond t z h m q rest false e = inr e

pub lows-in : (t : TrailView) (z h : ℕ) (M : List Literal) (q : Literal) → contains (low_literals t z h M) q ≡ true → (contains M q ≡ true) × IsLow t z h q
lows-in t z h [] q e = cc
lows-in t z h (m ∷ ms) q e =
    elim (in_cond t z h m q (low_literals t z h ms) (is_low t z h m) e) [
      | inl x ↦ (rw x.1 (contains-head m ms), rw x.1 (low-true t z h m x.0))
      | inr y ↦ let r = lows-in t z h ms q y in (contains-tail m ms q r.0, r.1)
    ]

cond_in : (m q : Literal) (rest : List Literal) (b : Bool) → ((b ≡ true) × (q ≡ m)) ⊎ (contains rest q ≡ true) → contains (cond b (m ∷ rest) rest) q ≡ true
cond_in m q rest true (inl x) = rw x.1 (contains-head m rest)
cond_in m q rest true (inr y) = contains-tail m rest q y
cond_in m q rest false (inl x) = cc
cond_in m q rest false (inr y) = y

pub lows-has : (t : TrailView) (z h : ℕ) (M : List Literal) (q : Literal) → contains M q ≡ true → IsLow t z h q → contains (low_literals t z h M) q ≡ true
lows-has t z h [] q e l = cc
lows-has t z h (m ∷ ms) q e l =
    cond_in m q (low_literals t z h ms) (is_low t z h m)
    (elim (contains-cases m ms q e) [ inl x ↦ inl (rw (← x) (low-is t z h q l), x) | inr y ↦ inr (lows-has t z h ms q y l) ])

pub contains-reverse : (xs : List Literal) (q : Literal) → contains (reverse xs) q ≡ true → contains xs q ≡ true
contains-reverse [] q h = h
contains-reverse (x ∷ xs) q h =
    elim (contains-push (reverse xs) x q (rw (reverse-append (x ∷ []) xs) at h)) [ inl a ↦ contains-tail x xs q (contains-reverse xs q a) | inr b ↦ rw b (contains-head x xs) ]

pub reverse-contains : (xs : List Literal) (q : Literal) → contains xs q ≡ true → contains (reverse xs) q ≡ true
reverse-contains [] q h = h
reverse-contains (x ∷ xs) q h =
    rw (reverse-append (x ∷ []) xs)
    (elim (contains-cases x xs q h) [ inl e ↦ rw e (contains-push_new (reverse xs) x) | inr r ↦ contains-push_left (reverse xs) x q (reverse-contains xs q r) ])

pub lesson : (f : FormulaView) (t : TrailView) (z high : ℕ) (u : Literal) (M met : List Literal) (H : List ℕ) → IsJustified f.clauses t → M ≡ reverse met → IsEnding f t z high 0 u M H → IsLearnable f t high (u ∷ low_literals t z high met) H
lesson f t z high u M met H j e w =
    let k : IsClause t z high u M (low_literals t z high met) = record {
      first = w.has;
      first_high = w.high_first;
      low = λ q n. let r = lows-in t z high met q n in (rw e (reverse-contains met q r.0), r.1);
      all = λ q n l. lows-has t z high met q (contains-reverse met q (rw e at n)) l;
    } in
    record {
      accepted = (end-accepts t (live_of f) M (low_literals t z high met) H z high u k w.way.met w.way.derives).0;
      is_local = end-local t (live_of f) M (low_literals t z high met) H z high u k w.way.met w.way.derives w.passes;
      first = u;
      rest = low_literals t z high met;
      is = refl;
      high_first = w.high_first;
      are_false = λ q n. elim (contains-cases u (low_literals t z high met) q n) [ inl x ↦ w.way.met.are_false q (rw x w.has) | inr y ↦ w.way.met.are_false q (k.low q y).0 ];
      lower = λ q n. (k.low q n).1.1;
      learned = end-learned t (live_of f) M (low_literals t z high met) H z high u j.consistent k w.way.met;
    }

pub all-false : (t : TrailView) (xs : List Literal) → IsOver t.vars xs → ((q : Literal) → contains xs q ≡ true → falsifies t.marks q ≡ true) → AllFalse t xs
all-false t [] o h = tt
all-false t (x ∷ xs) o h = (h x (contains-head x xs), IsOver-head t.vars x xs o, all-false t xs (IsOver-tail t.vars x xs o) (λ q n. h q (contains-tail x xs q n)))
