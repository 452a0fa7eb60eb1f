-- Sums that are given up where a number on the way is too wide.
use Rattle.std.proofs.Common.{◌≡◌, ℕ, zero, suc, ◌+◌, ◌<◌, Bool, true, false, not, ◌||◌, if◌then◌else◌, List, [], ◌∷◌, ◌++◌, map, Option, Some, None, inl, inr, refl, sym, ap, ◌∙◌, arith, add-one}
use Rattle.std.proofs.Math.IntN.{ℤ, ◌+ℤ◌, ◌*ℤ◌, +ℤ_assoc, +ℤ_idr}
use Rattle.std.specs.List.{flat_map}
use Rattle.std.specs.Option.{option_and_then}
use Rattle.std.proofs.lemmas.Bool.{cases_lt}
use Rattle.std.proofs.lemmas.List.{append-nil, map-append}
use Rattle.std.proofs.lemmas.List.Concat.{flat_map-append}
use Rattle.std.proofs.lemmas.List.Folds.{list_any-append}
use Rattle.dsv_algebra.specs.Narrow.{is_narrow}
use Rattle.dsv_algebra.specs.Vectors.{sum_to}
use Rattle.dsv_forms.specs.Refusals.{places, any_wide, partial_sums}
use Rattle.dsv_forms.specs.Sums.{Summand, sum_with, sum_from}

-- the number, unless one is wide
abbrev pub unless : Bool → ℤ → Option ℤ
unless true x = None
unless false x = Some x

pub unless-some : (b : Bool) (t x : ℤ) → unless b t ≡ Some x → (b ≡ false) × (x ≡ t)
unless-some true t x h = cc
unless-some false t x h = (refl, cc)

pub unless-none : (b : Bool) (t : ℤ) → unless b t ≡ None → b ≡ true
unless-none true t h = refl
unless-none false t h = cc

pub any_wide-append : (xs ys : List ℤ) → any_wide (xs ++ ys) ≡ (any_wide xs || any_wide ys)
any_wide-append xs ys = list_any-append (λ z. not (is_narrow z)) xs ys

-- ---- place by place
then_append : (o : Option ℤ) (xs ys : List Summand) → ((s : ℤ) → sum_from s (xs ++ ys) ≡ option_and_then (λ t. sum_from t ys) (sum_from s xs))
    → option_and_then (λ s. sum_from s (xs ++ ys)) o ≡ option_and_then (λ t. sum_from t ys) (option_and_then (λ s. sum_from s xs) o)
then_append None xs ys h = refl
then_append (Some s) xs ys h = h s

pub sum_from-append : (s : ℤ) (xs ys : List Summand) → sum_from s (xs ++ ys) ≡ option_and_then (λ t. sum_from t ys) (sum_from s xs)
sum_from-append s [] ys = refl
sum_from-append s (x ∷ xs) ys = then_append (sum_with s x) xs ys (λ t. sum_from-append t xs ys)

last_summands : (g : ℕ → List Summand) (s : ℤ) (k : ℕ) → sum_from s (flat_map g (places (suc k))) ≡ option_and_then (λ t. sum_from t (g k)) (sum_from s (flat_map g (places k)))
last_summands g s k =
    ap (sum_from s) (flat_map-append g (places k) (k ∷ []) ∙ ap (λ ys. flat_map g (places k) ++ ys) (append-nil (g k)))
    ∙ sum_from-append s (flat_map g (places k)) (g k)

-- the summands of one place more
pub sum_more : (g : ℕ → List Summand) (s : ℤ) (k : ℕ) (x : ℤ) (o : Option ℤ) → sum_from s (flat_map g (places k)) ≡ Some x → o ≡ sum_from x (g k)
    → sum_from s (flat_map g (places (k + 1))) ≡ o
sum_more g s k x o h e =
    ap (λ n. sum_from s (flat_map g (places n))) (add-one k) ∙ last_summands g s k ∙ rw h (sym e)

-- a sum that is given up stays so
pub sum_stops : (g : ℕ → List Summand) (s : ℤ) (k n : ℕ) (x : ℤ) → k < n → sum_from s (flat_map g (places k)) ≡ Some x → None ≡ sum_from x (g k)
    → sum_from s (flat_map g (places n)) ≡ None
sum_stops g s k zero x p h e = absurd (omega arith)
sum_stops g s k (suc n) x p h e = elim (cases_lt k n) [
  | inl less ↦ last_summands g s n ∙ rw (sum_stops g s k n x less h e) refl
  | inr more ↦ (let same : n ≡ k = omega arith in
      ap (λ m. sum_from s (flat_map g (places (suc m)))) same ∙ last_summands g s k ∙ rw h (sym e))
]

pub one_summand : (x : ℤ) (t : Summand) (o : Option ℤ) → o ≡ sum_with x t → o ≡ sum_from x (t ∷ [])
one_summand x t o e = e ∙ itself (sum_with x t)
  where
    itself : (o : Option ℤ) → o ≡ option_and_then (λ s. sum_from s []) o
    itself None = refl
    itself (Some s) = refl

-- ---- what a sum is
abbrev pub numbers : List Summand → List ℤ
numbers ts = flat_map (λ t. t.0) ts

abbrev pub values : List Summand → List ℤ
values ts = map (λ t. t.1) ts

abbrev pub total : ℤ → List ℤ → ℤ
total sum [] = sum
total sum (x ∷ xs) = total (sum +ℤ x) xs

step_is : (a n A B : Bool) (z t : ℤ) (k : ℤ → Option ℤ) → k z ≡ unless (A || B) t
    → option_and_then k (if a then None else (if n then Some z else None)) ≡ unless ((a || A) || (not n || B)) t
step_is true n A B z t k h = refl
step_is false true A B z t k h = h
step_is false false true B z t k h = refl
step_is false false false B z t k h = refl

pub sum_from-is : (s : ℤ) (ts : List Summand) → sum_from s ts ≡ unless (any_wide (numbers ts) || any_wide (partial_sums s (values ts))) (total s (values ts))
sum_from-is s [] = refl
sum_from-is s (t ∷ ts) =
    let z = s +ℤ t.1 in
    let A = any_wide (numbers ts) in
    let B = any_wide (partial_sums z (values ts)) in
    step_is (any_wide t.0) (is_narrow z) A B z (total z (values ts)) (λ u. sum_from u ts) (sum_from-is z ts)
    ∙ ap (λ w. unless (w || (not (is_narrow z) || B)) (total z (values ts))) (sym (any_wide-append t.0 (numbers ts)))

-- ---- products
shuffle : (x y A B : Bool) → (x || (y || (A || B))) ≡ ((x || A) || (y || B))
shuffle true y A B = refl
shuffle false y true B = or_true y
  where
    or_true : (b : Bool) → (b || true) ≡ true
    or_true true = refl
    or_true false = refl
shuffle false true false B = refl
shuffle false false false B = refl

-- a product as a factor times a number
abbrev pub term : ℤ → ℤ → Summand
term f x = (f ∷ (f *ℤ x) ∷ [], f *ℤ x)

-- the numbers on the way to terms are their factors and they themselves
pub numbers-terms : {A : Type 0} (f x : A → ℤ) (ks : List A) → any_wide (numbers (flat_map (λ k. term (f k) (x k) ∷ []) ks)) ≡ (any_wide (map f ks) || any_wide (map (λ k. f k *ℤ x k) ks))
numbers-terms f x [] = refl
numbers-terms f x (k ∷ ks) =
    ap (λ w. not (is_narrow (f k)) || (not (is_narrow (f k *ℤ x k)) || w)) (numbers-terms f x ks)
    ∙ shuffle (not (is_narrow (f k))) (not (is_narrow (f k *ℤ x k))) (any_wide (map f ks)) (any_wide (map (λ k. f k *ℤ x k) ks))

pub values-single : {A : Type 0} (t : A → Summand) (ks : List A) → values (flat_map (λ k. t k ∷ []) ks) ≡ map (λ k. (t k).1) ks
values-single t [] = refl
values-single t (k ∷ ks) = ap (λ xs. (t k).1 ∷ xs) (values-single t ks)

pub numbers-single : (f g : ℕ → ℤ) (ks : List ℕ) → numbers (flat_map (λ k. (f k ∷ [], g k) ∷ []) ks) ≡ map f ks
numbers-single f g [] = refl
numbers-single f g (k ∷ ks) = ap (λ xs. f k ∷ xs) (numbers-single f g ks)

pub total-append : (s : ℤ) (xs ys : List ℤ) → total s (xs ++ ys) ≡ total (total s xs) ys
total-append s [] ys = refl
total-append s (x ∷ xs) ys = total-append (s +ℤ x) xs ys

pub total-places : (s : ℤ) (f : ℕ → ℤ) (n : ℕ) → total s (map f (places n)) ≡ s +ℤ sum_to n f
total-places s f zero = sym (+ℤ_idr s)
total-places s f (suc n) =
    ap (total s) (map-append f (places n) (n ∷ [])) ∙ total-append s (map f (places n)) (f n ∷ [])
    ∙ ap (λ z. z +ℤ f n) (total-places s f n) ∙ +ℤ_assoc s (sum_to n f) (f n)

-- ---- rows of products
pub values-rows : (g : ℕ → List Summand) (ks : List ℕ) → values (flat_map g ks) ≡ flat_map (λ k. values (g k)) ks
values-rows g [] = refl
values-rows g (k ∷ ks) = map-append (λ t. t.1) (g k) (flat_map g ks) ∙ ap (λ xs. values (g k) ++ xs) (values-rows g ks)

four : (a b A B : Bool) → ((a || b) || (A || B)) ≡ ((a || A) || (b || B))
four true b A B = refl
four false b true B = or_true b
  where
    or_true : (b : Bool) → (b || true) ≡ true
    or_true true = refl
    or_true false = refl
four false true false B = refl
four false false false B = refl

pub numbers-rows : (g : ℕ → List Summand) (f h : ℕ → List ℤ) (ks : List ℕ) → ((k : ℕ) → any_wide (numbers (g k)) ≡ (any_wide (f k) || any_wide (h k)))
    → any_wide (numbers (flat_map g ks)) ≡ (any_wide (flat_map f ks) || any_wide (flat_map h ks))
numbers-rows g f h [] e = refl
numbers-rows g f h (k ∷ ks) e =
    ap any_wide (flat_map-append (λ t. t.0) (g k) (flat_map g ks))
    ∙ any_wide-append (numbers (g k)) (numbers (flat_map g ks))
    ∙ rw (e k, numbers-rows g f h ks e, any_wide-append (f k) (flat_map f ks), any_wide-append (h k) (flat_map h ks)) (four (any_wide (f k)) (any_wide (h k)) (any_wide (flat_map f ks)) (any_wide (flat_map h ks)))

pub total-rows : (s : ℤ) (f : ℕ → ℕ → ℤ) (d n : ℕ) → total s (flat_map (λ i. map (f i) (places d)) (places n)) ≡ s +ℤ sum_to n (λ i. sum_to d (f i))
total-rows s f d zero = sym (+ℤ_idr s)
total-rows s f d (suc n) =
    ap (total s) (flat_map-append (λ i. map (f i) (places d)) (places n) (n ∷ []) ∙ ap (λ ys. flat_map (λ i. map (f i) (places d)) (places n) ++ ys) (append-nil (map (f n) (places d))))
    ∙ total-append s (flat_map (λ i. map (f i) (places d)) (places n)) (map (f n) (places d))
    ∙ ap (λ z. total z (map (f n) (places d))) (total-rows s f d n)
    ∙ total-places (s +ℤ sum_to n (λ i. sum_to d (f i))) (f n) d
    ∙ +ℤ_assoc s (sum_to n (λ i. sum_to d (f i))) (sum_to d (f n))
