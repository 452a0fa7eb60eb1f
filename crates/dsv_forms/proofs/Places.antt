-- Tests place by place: the first refusal, and whether all hold or one does.
use Rattle.std.proofs.Common.{◌≡◌, ℕ, zero, suc, ◌+◌, ◌<◌, ◌≤◌, Bool, true, false, not, ◌&&◌, ◌||◌, cond, nat_le, if◌then◌else◌, List, [], ◌∷◌, ◌++◌, map, Option, Some, None, Result, Ok, Err, inl, inr, refl, sym, ap, ◌∙◌, arith}
use Rattle.std.specs.List.{list_all, list_any, flat_map, filter}
use Rattle.std.proofs.lemmas.Bool.{cases_lt}
use Rattle.std.proofs.lemmas.Bool.Decides.{nat_tests}
use Rattle.std.proofs.lemmas.List.{append-nil, map-append}
use Rattle.std.proofs.lemmas.List.Concat.{flat_map-append, flat_map_single}
use Rattle.std.proofs.lemmas.List.Folds.{list_all-append, list_any-append}
use Rattle.dsv_forms.specs.declared.refusal.FormRefusal.{FormRefusal}
use Rattle.dsv_forms.specs.Refusals.{Test, first_of, refusal_of, places, places_from}

-- the first refusal, else the other
abbrev pub or_else : {R : Type 0} → Option R → Option R → Option R
or_else (Some r) other = Some r
or_else None other = other

pub neither : {R : Type 0} (a b : Option R) → or_else a b ≡ None → (a ≡ None) × (b ≡ None)
neither None b h = (refl, h)
neither (Some r) b h = absurd (cc)

one_more : {R : Type 0} (b : Bool) (r : R) (o p : Option R) → elim b as (λ b. Option R) [ true ↦ Some r | false ↦ or_else o p ]
    ≡ or_else (elim b as (λ b. Option R) [ true ↦ Some r | false ↦ o ]) p
one_more true r o p = refl
one_more false r o p = refl

pub first_of-append : {R : Type 0} (xs ys : List (Bool × R)) → first_of (xs ++ ys) ≡ or_else (first_of xs) (first_of ys)
first_of-append [] ys = refl
first_of-append {R} (x ∷ xs) ys =
    ap (λ (o : Option R). elim x.0 as (λ b. Option R) [ true ↦ Some x.1 | false ↦ o ]) (first_of-append xs ys)
    ∙ one_more x.0 x.1 (first_of xs) (first_of ys)

pub first_before : {R : Type 0} (b : Bool) (r : R) (tests : List (Bool × R)) → first_of ((b, r) ∷ tests) ≡ or_else (first_of ((b, r) ∷ [])) (first_of tests)
first_before true r tests = refl
first_before false r tests = refl

pub refusal-err : {T R : Type 0} (r : Result T R) (e : R) → r ≡ Err e → refusal_of r ≡ Some e
refusal-err r e h = rw h refl

pub refusal-ok : {T R : Type 0} (r : Result T R) (x : T) → r ≡ Ok x → refusal_of r ≡ None
refusal-ok r x h = rw h refl

pub not_true : (a : Bool) → false ≡ not a → a ≡ true
not_true true h = refl
not_true false h = cc

pub passes : {R : Type 0} (b : Bool) (r : R) → first_of ((b, r) ∷ []) ≡ None → b ≡ false
passes true r h = cc
passes false r h = refl

pub passed : {R : Type 0} (b : Bool) (r : R) → b ≡ false → first_of ((b, r) ∷ []) ≡ None
passed b r e = rw e refl

pub refused : {R : Type 0} (b : Bool) (r : R) → b ≡ true → first_of ((b, r) ∷ []) ≡ Some r
refused b r e = rw e refl

pub neither_test : (a b : Bool) → (a || b) ≡ false → (a ≡ false) × (b ≡ false)
neither_test true b h = cc
neither_test false b h = (refl, h)

pub both_tests : (a b : Bool) → (a && b) ≡ true → (a ≡ true) × (b ≡ true)
both_tests true b h = (refl, h)
both_tests false b h = cc

pub not_false : (a : Bool) → not a ≡ false → a ≡ true
not_false true h = refl
not_false false h = cc

-- ---- lists of tests, place by place
last_place : (f : ℕ → List Test) (d : ℕ) → first_of (flat_map f (places (suc d))) ≡ or_else (first_of (flat_map f (places d))) (first_of (f d))
last_place f d =
    ap first_of (flat_map-append f (places d) (d ∷ []))
    ∙ first_of-append (flat_map f (places d)) (f d ++ [])
    ∙ ap (λ xs. or_else (first_of (flat_map f (places d))) (first_of xs)) (append-nil (f d))

pub first_none : (f : ℕ → List Test) (d : ℕ) → ((k : ℕ) → k < d → first_of (f k) ≡ None) → first_of (flat_map f (places d)) ≡ None
first_none f zero h = refl
first_none f (suc d) h = last_place f d ∙ rw (first_none f d (λ k p. h k (omega arith))) (h d (omega arith))

pub first_some : (f : ℕ → List Test) (d i : ℕ) (r : FormRefusal) → i < d → ((k : ℕ) → k < i → first_of (f k) ≡ None) → first_of (f i) ≡ Some r
    → first_of (flat_map f (places d)) ≡ Some r
first_some f zero i r p h e = absurd (omega arith)
first_some f (suc d) i r p h e = elim (cases_lt i d) [
  | inl less ↦ last_place f d ∙ rw (first_some f d i r less h e) refl
  | inr more ↦ (let same : d ≡ i = omega arith in
      last_place f d ∙ rw (first_none f d (λ k q. h k (omega arith))) (ap (λ k. first_of (f k)) same ∙ e))
]

pub none_each : (f : ℕ → List Test) (d : ℕ) → first_of (flat_map f (places d)) ≡ None → (k : ℕ) → k < d → first_of (f k) ≡ None
none_each f zero h k p = absurd (omega arith)
none_each f (suc d) h k p =
    let both = neither (first_of (flat_map f (places d))) (first_of (f d)) (sym (last_place f d) ∙ h) in
    elim (cases_lt k d) [
      | inl less ↦ none_each f d both.0 k less
      | inr more ↦ (let same : k ≡ d = omega arith in ap (λ j. first_of (f j)) same ∙ both.1)
    ]

pub first_same : (f g : ℕ → List Test) (d : ℕ) → ((k : ℕ) → k < d → first_of (f k) ≡ first_of (g k)) → first_of (flat_map f (places d)) ≡ first_of (flat_map g (places d))
first_same f g zero h = refl
first_same f g (suc d) h =
    last_place f d ∙ rw (first_same f g d (λ k p. h k (omega arith)), h d (omega arith)) refl ∙ sym (last_place g d)

-- ---- the places from one up
filter_case : (b : Bool) (f : ℕ → List Test) (x : ℕ) (xs : List ℕ) → flat_map f (cond b (x ∷ xs) xs) ≡ (if b then f x else []) ++ flat_map f xs
filter_case true f x xs = refl
filter_case false f x xs = refl

flat_map-filter : (p : ℕ → Bool) (f : ℕ → List Test) (xs : List ℕ) → flat_map f (filter p xs) ≡ flat_map (λ x. if p x then f x else []) xs
flat_map-filter p f [] = refl
flat_map-filter p f (x ∷ xs) = filter_case (p x) f x (filter p xs) ∙ ap (λ ys. (if p x then f x else []) ++ ys) (flat_map-filter p f xs)

from_is : (f : ℕ → List Test) (i d : ℕ) → first_of (flat_map f (places_from i d)) ≡ first_of (flat_map (λ j. if nat_le i j then f j else []) (places d))
from_is f i d = ap first_of (flat_map-filter (λ j. nat_le i j) f (places d))

where_true : (b : Bool) (xs : List Test) (o : Option FormRefusal) → b ≡ true → first_of xs ≡ o → first_of (if b then xs else []) ≡ o
where_true b xs o e h = rw e h

where_none : (b : Bool) (xs : List Test) → (b ≡ true → first_of xs ≡ None) → first_of (if b then xs else []) ≡ None
where_none true xs h = h refl
where_none false xs h = refl

where_same : (b : Bool) (xs ys : List Test) → (b ≡ true → first_of xs ≡ first_of ys) → first_of (if b then xs else []) ≡ first_of (if b then ys else [])
where_same true xs ys h = h refl
where_same false xs ys h = refl

at_most : (i j : ℕ) → nat_le i j ≡ true → i ≤ j
at_most i j h = grind (arith, nat_tests)

is_at_most : (i j : ℕ) → i ≤ j → nat_le i j ≡ true
is_at_most i j h = grind (arith, nat_tests)

pub from_none : (f : ℕ → List Test) (i d : ℕ) → ((k : ℕ) → i ≤ k → k < d → first_of (f k) ≡ None) → first_of (flat_map f (places_from i d)) ≡ None
from_none f i d h =
    from_is f i d ∙ first_none (λ j. if nat_le i j then f j else []) d (λ k p. where_none (nat_le i k) (f k) (λ e. h k (at_most i k e) p))

pub from_some : (f : ℕ → List Test) (i d j : ℕ) (r : FormRefusal) → i ≤ j → j < d → ((k : ℕ) → i ≤ k → k < j → first_of (f k) ≡ None) → first_of (f j) ≡ Some r
    → first_of (flat_map f (places_from i d)) ≡ Some r
from_some f i d j r q p h e =
    from_is f i d ∙ first_some (λ j. if nat_le i j then f j else []) d j r p (λ k p. where_none (nat_le i k) (f k) (λ e. h k (at_most i k e) p))
    (where_true (nat_le i j) (f j) (Some r) (is_at_most i j q) e)

pub from_more : (f : ℕ → List Test) (i j : ℕ) → ((k : ℕ) → i ≤ k → k < j → first_of (f k) ≡ None) → first_of (f j) ≡ None
    → (k : ℕ) → i ≤ k → k < j + 1 → first_of (f k) ≡ None
from_more f i j h e k q p = elim (cases_lt k j) [
  | inl less ↦ h k q less
  | inr more ↦ (let same : k ≡ j = omega arith in ap (λ m. first_of (f m)) same ∙ e)
]

opened : (b : Bool) (xs : List Test) → b ≡ true → first_of (if b then xs else []) ≡ None → first_of xs ≡ None
opened true xs e h = h
opened false xs e h = cc

pub from_each : (f : ℕ → List Test) (i d : ℕ) → first_of (flat_map f (places_from i d)) ≡ None → (k : ℕ) → i ≤ k → k < d → first_of (f k) ≡ None
from_each f i d h k q p =
    opened (nat_le i k) (f k) (is_at_most i k q) (none_each (λ j. if nat_le i j then f j else []) d (sym (from_is f i d) ∙ h) k p)

pub from_same : (f g : ℕ → List Test) (i d : ℕ) → ((k : ℕ) → i ≤ k → k < d → first_of (f k) ≡ first_of (g k)) → first_of (flat_map f (places_from i d)) ≡ first_of (flat_map g (places_from i d))
from_same f g i d h =
    from_is f i d
    ∙ first_same (λ j. if nat_le i j then f j else []) (λ j. if nat_le i j then g j else []) d (λ k p. where_same (nat_le i k) (f k) (g k) (λ e. h k (at_most i k e) p))
    ∙ sym (from_is g i d)

-- ---- one test a place
single : (bad : ℕ → Bool) (r : ℕ → FormRefusal) (d : ℕ) → first_of (map (λ k. (bad k, r k)) (places d)) ≡ first_of (flat_map (λ k. (bad k, r k) ∷ []) (places d))
single bad r d = ap first_of (sym (flat_map_single (λ k. (bad k, r k)) (places d)))

pub tests_none : (bad : ℕ → Bool) (r : ℕ → FormRefusal) (d : ℕ) → ((k : ℕ) → k < d → bad k ≡ false) → first_of (map (λ k. (bad k, r k)) (places d)) ≡ None
tests_none bad r d h = single bad r d ∙ first_none (λ k. (bad k, r k) ∷ []) d (λ k p. passed (bad k) (r k) (h k p))

pub tests_some : (bad : ℕ → Bool) (r : ℕ → FormRefusal) (d i : ℕ) → i < d → ((k : ℕ) → k < i → bad k ≡ false) → bad i ≡ true
    → first_of (map (λ k. (bad k, r k)) (places d)) ≡ Some (r i)
tests_some bad r d i p h e =
    single bad r d ∙ first_some (λ k. (bad k, r k) ∷ []) d i (r i) p (λ k q. passed (bad k) (r k) (h k q)) (refused (bad i) (r i) e)

pub tests_each : (bad : ℕ → Bool) (r : ℕ → FormRefusal) (d : ℕ) → first_of (map (λ k. (bad k, r k)) (places d)) ≡ None → (k : ℕ) → k < d → bad k ≡ false
tests_each bad r d h k p = passes (bad k) (r k) (none_each (λ k. (bad k, r k) ∷ []) d (sym (single bad r d) ∙ h) k p)

-- ---- whether all hold, or one does
last_all : (p : ℕ → Bool) (d : ℕ) → list_all p (places (suc d)) ≡ (list_all p (places d) && (p d && true))
last_all p d = list_all-append p (places d) (d ∷ [])

last_any : (p : ℕ → Bool) (d : ℕ) → list_any p (places (suc d)) ≡ (list_any p (places d) || (p d || false))
last_any p d = list_any-append p (places d) (d ∷ [])

and_false : (b : Bool) → (b && false) ≡ false
and_false true = refl
and_false false = refl

or_true : (b : Bool) → (b || true) ≡ true
or_true true = refl
or_true false = refl

pub all_true : (p : ℕ → Bool) (d : ℕ) → ((k : ℕ) → k < d → p k ≡ true) → list_all p (places d) ≡ true
all_true p zero h = refl
all_true p (suc d) h = last_all p d ∙ rw (all_true p d (λ k q. h k (omega arith)), h d (omega arith)) refl

pub all_false : (p : ℕ → Bool) (d i : ℕ) → i < d → p i ≡ false → list_all p (places d) ≡ false
all_false p zero i q e = absurd (omega arith)
all_false p (suc d) i q e = elim (cases_lt i d) [
  | inl less ↦ last_all p d ∙ rw (all_false p d i less e) refl
  | inr more ↦ (let same : d ≡ i = omega arith in last_all p d ∙ rw (ap p same ∙ e) (and_false (list_all p (places d))))
]

pub all_each : (p : ℕ → Bool) (d : ℕ) → list_all p (places d) ≡ true → (k : ℕ) → k < d → p k ≡ true
all_each p zero h k q = absurd (omega arith)
all_each p (suc d) h k q =
    let both = both_tests (list_all p (places d)) (p d && true) (sym (last_all p d) ∙ h) in
    elim (cases_lt k d) [
      | inl less ↦ all_each p d both.0 k less
      | inr more ↦ (let same : k ≡ d = omega arith in ap p same ∙ (both_tests (p d) true both.1).0)
    ]

pub any_false : (p : ℕ → Bool) (d : ℕ) → ((k : ℕ) → k < d → p k ≡ false) → list_any p (places d) ≡ false
any_false p zero h = refl
any_false p (suc d) h = last_any p d ∙ rw (any_false p d (λ k q. h k (omega arith)), h d (omega arith)) refl

-- ---- the same at each place
pub map_same : {A : Type 0} (f g : ℕ → A) (d : ℕ) → ((k : ℕ) → k < d → f k ≡ g k) → map f (places d) ≡ map g (places d)
map_same f g zero h = refl
map_same f g (suc d) h =
    map-append f (places d) (d ∷ []) ∙ rw (map_same f g d (λ k q. h k (omega arith)), h d (omega arith)) refl ∙ sym (map-append g (places d) (d ∷ []))

pub flat_same : {A : Type 0} (f g : ℕ → List A) (d : ℕ) → ((k : ℕ) → k < d → f k ≡ g k) → flat_map f (places d) ≡ flat_map g (places d)
flat_same f g zero h = refl
flat_same f g (suc d) h =
    flat_map-append f (places d) (d ∷ []) ∙ rw (flat_same f g d (λ k q. h k (omega arith)), h d (omega arith)) refl ∙ sym (flat_map-append g (places d) (d ∷ []))

pub all_same : (p q : ℕ → Bool) (d : ℕ) → ((k : ℕ) → k < d → p k ≡ q k) → list_all p (places d) ≡ list_all q (places d)
all_same p q zero h = refl
all_same p q (suc d) h = last_all p d ∙ rw (all_same p q d (λ k l. h k (omega arith)), h d (omega arith)) refl ∙ sym (last_all q d)

pub any_same : (p q : ℕ → Bool) (d : ℕ) → ((k : ℕ) → k < d → p k ≡ q k) → list_any p (places d) ≡ list_any q (places d)
any_same p q zero h = refl
any_same p q (suc d) h = last_any p d ∙ rw (any_same p q d (λ k l. h k (omega arith)), h d (omega arith)) refl ∙ sym (last_any q d)

pub any_true : (p : ℕ → Bool) (d i : ℕ) → i < d → p i ≡ true → list_any p (places d) ≡ true
any_true p zero i q e = absurd (omega arith)
any_true p (suc d) i q e = elim (cases_lt i d) [
  | inl less ↦ last_any p d ∙ rw (any_true p d i less e) refl
  | inr more ↦ (let same : d ≡ i = omega arith in last_any p d ∙ rw (ap p same ∙ e) (or_true (list_any p (places d))))
]

pub any_each : (p : ℕ → Bool) (d : ℕ) → list_any p (places d) ≡ false → (k : ℕ) → k < d → p k ≡ false
any_each p zero h k q = absurd (omega arith)
any_each p (suc d) h k q =
    let both = neither_test (list_any p (places d)) (p d || false) (sym (last_any p d) ∙ h) in
    elim (cases_lt k d) [
      | inl less ↦ any_each p d both.0 k less
      | inr more ↦ (let same : k ≡ d = omega arith in ap p same ∙ (neither_test (p d) false both.1).0)
    ]
