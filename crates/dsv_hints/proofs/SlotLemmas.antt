-- Slots in the order of their ids.
use Rattle.std.proofs.Common.{◌≡◌, ℕ, ◌<◌, ◌≤◌, Bool, true, false, List, [], ◌∷◌, ◌++◌, zero, suc, Option, Some, None, Result, Ok, Err, cond, refl, arith, ap, sym, ◌∙◌, length, get_or, set, IfSome, IfNone, inl, inr}
use Rattle.std.specs.Result.{result_ok}
use Rattle.std.specs.List.{All, slice_range}
use Rattle.std.specs.List.Sorted.{IsSearchInRange, IsBinarySearchResult, IsNonDecreasingBy}
use Rattle.std.specs.Ordering.{nat_cmp, ordering_index}
use Rattle.std.proofs.lemmas.Cmp.{ranked}
use Rattle.std.proofs.lemmas.List.Elements.{All-head, All-tail}
use Rattle.std.proofs.lemmas.Bool.{cases_lt, eq-eqb}
use Rattle.std.proofs.lemmas.Bool.Decides.{nat_tests}
use Rattle.dsv_cnf.specs.Literal.{Literal}
use Rattle.dsv_cnf.proofs.PieceLemmas.{range-append, range-last}
use Rattle.dsv_cnf.proofs.SetLemmas.{eqb-other}
use Rattle.dsv_hints.specs.Derivation.{Entry, live_clause, without}
use Rattle.dsv_hints.specs.Slots.{is_kept, entry_of, live_of, IsRising, HasId, AllOther, IsWithin}
use Rattle.dsv_hints.specs.declared.store.Slot.{Slot}

rising-tail : (s : Slot) (ss : List Slot) → IsRising (s ∷ ss) → IsRising ss
rising-tail s ss p = λ i j d lt h. p (suc i) (suc j) d (omega arith) (omega arith)

-- the first id is below all others
rising-head : (s : Slot) (ss : List Slot) → IsRising (s ∷ ss) → All (λ t. s.id < t.id) ss
rising-head s ss p = λ k d h. p 0 (suc k) d (omega arith) (omega arith)

other-head : (s : Slot) (ss : List Slot) (id : ℕ) → IsRising (s ∷ ss) → s.id ≡ id → AllOther ss id
other-head s ss id p e = λ k d h same. omega (arith, rising-head s ss p k d h, e, same)

-- ---- finding

absent_cond : (e : Entry) (es : List Entry) (id : ℕ) (b : Bool) → (e.id ≡ id → ⊥) → live_clause es id ≡ None → live_clause (cond b (e ∷ es) es) id ≡ None
absent_cond e es id true n h = rw (eqb-other e.id id n) h
absent_cond e es id false n h = h

pub live-absent : (literals : List Literal) (slots : List Slot) (id : ℕ) → AllOther slots id → live_clause (live_of literals slots) id ≡ None
live-absent literals [] id n = refl
live-absent literals (s ∷ ss) id n =
    absent_cond (entry_of literals s) (live_of literals ss) id (is_kept s) (λ e. n 0 s (omega arith) e)
    (live-absent literals ss id (λ k d h. n (suc k) d (omega arith)))

found_here : (e : Entry) (es : List Entry) (id : ℕ) (b : Bool) → e.id ≡ id → live_clause es id ≡ None → live_clause (cond b (e ∷ es) es) id ≡ cond b (Some e.clause) None
found_here e es id true same h = rw (eq-eqb e.id id same) refl
found_here e es id false same h = h

found_later : (e : Entry) (es : List Entry) (id : ℕ) (b : Bool) (o : Option (List Literal)) → (e.id ≡ id → ⊥) → live_clause es id ≡ o → live_clause (cond b (e ∷ es) es) id ≡ o
found_later e es id true o n h = rw (eqb-other e.id id n) h
found_later e es id false o n h = h

-- the live clause of an id is the one of its slot
pub live-found : (literals : List Literal) (slots : List Slot) (id at : ℕ) (x : Slot) → IsRising slots → at < length slots → x ≡ get_or slots at x → x.id ≡ id
    → live_clause (live_of literals slots) id ≡ cond (is_kept x) (Some (slice_range literals x.start x.end)) None
live-found literals [] id at x p lt e h = absurd (omega arith)
live-found literals (s ∷ ss) id zero x p lt e h =
    let same : s ≡ x = sym e in
    rw (← same) (found_here (entry_of literals s) (live_of literals ss) id (is_kept s) (rw same h) (live-absent literals ss id (other-head s ss id p (rw same h))))
live-found literals (s ∷ ss) id (suc at) x p lt e h =
    let below : s.id < (get_or ss at x).id = rising-head s ss p at x (omega arith) in
    let there : (get_or ss at x).id ≡ id = rw (← e) h in
    found_later (entry_of literals s) (live_of literals ss) id (is_kept s) (cond (is_kept x) (Some (slice_range literals x.start x.end)) None)
    (λ same. omega (arith, below, there, same)) (live-found literals ss id at x (rising-tail s ss p) (omega arith) e h)

-- the same by what a search says of the slot
pub live-at : (literals : List Literal) (slots : List Slot) (id at : ℕ) (x : Slot) → IsRising slots → HasId slots id at → x ≡ get_or slots at x
    → live_clause (live_of literals slots) id ≡ cond (is_kept x) (Some (slice_range literals x.start x.end)) None
live-at literals slots id at x p h e = live-found literals slots id at x p h.in_range e (rw (← e) at (h.same x))

-- ---- deleting

absent_keep : (e : Entry) (es : List Entry) (id : ℕ) (b : Bool) → (e.id ≡ id → ⊥) → without es id ≡ es → without (cond b (e ∷ es) es) id ≡ cond b (e ∷ es) es
absent_keep e es id true n h = rw (eqb-other e.id id n, h) refl
absent_keep e es id false n h = h

pub without-absent : (literals : List Literal) (slots : List Slot) (id : ℕ) → AllOther slots id → without (live_of literals slots) id ≡ live_of literals slots
without-absent literals [] id n = refl
without-absent literals (s ∷ ss) id n =
    absent_keep (entry_of literals s) (live_of literals ss) id (is_kept s) (λ e. n 0 s (omega arith) e)
    (without-absent literals ss id (λ k d h. n (suc k) d (omega arith)))

delete_here : (e : Entry) (es : List Entry) (id : ℕ) (b : Bool) → e.id ≡ id → without es id ≡ es → es ≡ without (cond b (e ∷ es) es) id
delete_here e es id true same h = rw (eq-eqb e.id id same) (sym h)
delete_here e es id false same h = sym h

delete_later : (e : Entry) (es fewer : List Entry) (id : ℕ) (b : Bool) → (e.id ≡ id → ⊥) → fewer ≡ without es id → cond b (e ∷ fewer) fewer ≡ without (cond b (e ∷ es) es) id
delete_later e es fewer id true n h = rw (eqb-other e.id id n, h) refl
delete_later e es fewer id false n h = h

pub live-deleted : (literals : List Literal) (slots : List Slot) (id at : ℕ) (x y : Slot) → IsRising slots → at < length slots → x ≡ get_or slots at x → x.id ≡ id → is_kept y ≡ false
    → live_of literals (set slots at y) ≡ without (live_of literals slots) id
live-deleted literals [] id at x y p lt e h d = absurd (omega arith)
live-deleted literals (s ∷ ss) id zero x y p lt e h d =
    let same : s ≡ x = sym e in
    let at : s.id ≡ id = rw same h in
    rw d (delete_here (entry_of literals s) (live_of literals ss) id (is_kept s) at (without-absent literals ss id (other-head s ss id p at)))
live-deleted literals (s ∷ ss) id (suc at) x y p lt e h d =
    let below : s.id < (get_or ss at x).id = rising-head s ss p at x (omega arith) in
    let there : (get_or ss at x).id ≡ id = rw (← e) h in
    delete_later (entry_of literals s) (live_of literals ss) (live_of literals (set ss at y)) id (is_kept s)
    (λ same. omega (arith, below, there, same)) (live-deleted literals ss id at x y (rising-tail s ss p) (omega arith) e h d)

-- ---- adding

append_cond : (b : Bool) (e f : Entry) (es fs : List Entry) → (b ≡ true → e ≡ f) → es ≡ fs → cond b (e ∷ es) es ≡ cond b (f ∷ fs) fs
append_cond true e f es fs h k = rw (h refl, k) refl
append_cond false e f es fs h k = k

kept_order : (s : Slot) → is_kept s ≡ true → s.start ≤ s.end
kept_order s h = grind (arith, nat_tests)

live-append : (literals more : List Literal) (slots : List Slot) → All (IsWithin (length literals)) slots → live_of (literals ++ more) slots ≡ live_of literals slots
live-append literals more [] w = refl
live-append literals more (s ∷ ss) w =
    let here = All-head (IsWithin (length literals)) s ss w in
    append_cond (is_kept s) (entry_of (literals ++ more) s) (entry_of literals s) (live_of (literals ++ more) ss) (live_of literals ss)
    (λ h. rw (range-append literals more s.start s.end (kept_order s h) here.inside) refl) (live-append literals more ss (All-tail (IsWithin (length literals)) s ss w))

live-push : (literals : List Literal) (slots : List Slot) (s : Slot) → is_kept s ≡ true → live_of literals (slots ++ s ∷ []) ≡ live_of literals slots ++ entry_of literals s ∷ []
live-push literals [] s h = rw h refl
live-push literals (t ∷ ts) s h = elim (is_kept t) as (λ b. cond b (entry_of literals t ∷ live_of literals (ts ++ s ∷ [])) (live_of literals (ts ++ s ∷ [])) ≡ cond b (entry_of literals t ∷ live_of literals ts) (live_of literals ts) ++ entry_of literals s ∷ [])
    [ true ↦ ap (λ es. entry_of literals t ∷ es) (live-push literals ts s h) | false ↦ live-push literals ts s h ]

is_added : (literals more : List Literal) (slots : List Slot) (s : Slot) → is_kept s ≡ true → s.start ≡ length literals → s.end ≡ length (literals ++ more) → All (IsWithin (length literals)) slots
    → live_of (literals ++ more) (slots ++ s ∷ []) ≡ live_of literals slots ++ record { id = s.id; clause = more } ∷ []
is_added literals more slots s live start end within =
    live-push (literals ++ more) slots s live
    ∙ ap (λ es. es ++ entry_of (literals ++ more) s ∷ []) (live-append literals more slots within)
    ∙ ap (λ c. live_of literals slots ++ record { id = s.id; clause = c } ∷ []) (rw (start, end) (range-last literals more))

-- one more live clause after all others
pub live-added : (literals more new : List Literal) (slots newer : List Slot) (s : Slot) → new ≡ literals ++ more → newer ≡ slots ++ s ∷ []
    → is_kept s ≡ true → s.start ≡ length literals → s.end ≡ length new → All (IsWithin (length literals)) slots
    → live_of new newer ≡ live_of literals slots ++ record { id = s.id; clause = more } ∷ []
live-added literals more new slots newer s e f live start end within = rw (e, f) (is_added literals more slots s live start (rw e at end) within)

-- ---- searching

ids_rise : (slots : List Slot) (id : ℕ) → IsRising slots → IsNonDecreasingBy (λ s. ordering_index (nat_cmp s.id id)) slots
ids_rise slots id rising = λ i j d le lt.
    let rise : (get_or slots i d).id ≤ (get_or slots j d).id = grind (arith, rising i j d, λ (same : i ≡ j). ap (λ k. (get_or slots k d).id) same) in
    grind (arith, nat_tests)

-- a binary search by the id ends at its slot, or no slot has the id
pub searched : (slots : List Slot) (id : ℕ) → IsRising slots → (r : Result ℕ ℕ) → IsSearchInRange r (length slots) → IsBinarySearchResult (λ s. nat_cmp s.id id) slots r
    → record { found : IfSome (result_ok r) (HasId slots id); absent : IfNone (result_ok r) (AllOther slots id) }
searched slots id rising (Ok at) within equal = record { found = record { in_range = within; same = λ d. ranked _ id _ (sym (equal d)) }; absent = tt }
searched slots id rising (Err at) within parted = record {
  found = tt;
  absent = λ k d lt same. elim (cases_lt k at) [
    | inl below ↦ omega (arith, ranked _ id _ (sym ((parted (ids_rise slots id rising)).0 k d (omega arith) below)), same)
    | inr above ↦ omega (arith, ranked _ id _ (sym ((parted (ids_rise slots id rising)).1 k d above lt)), same)
  ];
}
