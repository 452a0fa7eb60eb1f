-- What squares show where none of their tests refuses.
use Rattle.std.proofs.Common.{◌≡◌, ◌≢◌, ℕ, ◌<◌, ◌≤◌, Bool, true, false, not, ◌||◌, ◌==◌, nat_lt, int_lt, List, [], ◌∷◌, ◌++◌, map, Option, None, inl, inr, refl, sym, ap, ◌∙◌, arith}
use Rattle.std.proofs.Math.IntN.{ℤ, pos, ◌+ℤ◌, ◌*ℤ◌}
use Rattle.std.proofs.lemmas.Int.{ints}
use Rattle.std.proofs.lemmas.Bool.{cases_lt}
use Rattle.std.proofs.lemmas.Bool.Decides.{nat_tests, Decides-int_eq}
use Rattle.std.specs.List.{list_any, list_all}
use Rattle.std.specs.Ordering.{int_eq}
use lib.Signed.{◌<ℤ◌, ◌≤ℤ◌}
use Rattle.dsv_algebra.specs.Narrow.{is_narrow}
use Rattle.dsv_algebra.specs.Vectors.{Vector, Matrix, sum_to}
use Rattle.dsv_algebra.specs.Squares.{square, squares, beside, IsDominant}
use Rattle.dsv_algebra.proofs.Normaliser.{ring, env, var, times}
use Rattle.dsv_algebra.proofs.Sums.{sum_same}
use Rattle.dsv_algebra.proofs.Falling.{ShowPositive}
use Rattle.dsv_algebra.proofs.KeptAway.{ShowNotNegative}
use Rattle.dsv_forms.specs.declared.offers.Squares.{Squares}
use Rattle.dsv_forms.specs.declared.refusal.OfferPart.{OfferPart}
use Rattle.dsv_forms.specs.declared.refusal.FormRefusal.{FormRefusal}
use Rattle.dsv_forms.specs.declared.refusal.FormRefusal.TheVariants as refusal
use Rattle.dsv_forms.specs.Refusals.{first_of, places, any_wide, partial_sums, is_symmetric, weights_of, rows_of, rest_of, bad_rest, bad_shape, square_terms, right_side, side_numbers, place_tests, row_tests, side_tests, sizes_beside, not_dominant, dominance_tests, bad_weight, bad_row, positive_weight_tests, triangle_tests, definite_tests, too_many_rows, negative_weight, weak_weight_tests, semidefinite_tests}
use Rattle.dsv_forms.proofs.SumLemmas.{any_wide-append}
use Rattle.dsv_forms.proofs.Places.{or_else, neither, first_of-append, first_before, passes, neither_test, not_false, none_each, from_each, tests_each, all_true, all_each, any_each}

-- ---- the parts of a check
pub definite_parts : (p : OfferPart) (d : ℕ) (s : Squares) (T : Matrix) (numbers : ℕ → ℕ → List ℤ) → first_of (definite_tests p d s T numbers)
    ≡ or_else (first_of ((bad_shape d s, refusal.Shape p) ∷ []))
    (or_else (or_else (or_else (first_of (positive_weight_tests p d s)) (first_of (triangle_tests p d s))) (first_of (side_tests p d d s T numbers))) (first_of (dominance_tests p d s)))
definite_parts p d s T numbers =
    let w = positive_weight_tests p d s in
    let t = triangle_tests p d s in
    let i = side_tests p d d s T numbers in
    let m = dominance_tests p d s in
    first_before (bad_shape d s) (refusal.Shape p) (w ++ t ++ i ++ m)
    ∙ ap (or_else (first_of ((bad_shape d s, refusal.Shape p) ∷ [])))
    (first_of-append (w ++ t ++ i) m
    ∙ ap (λ o. or_else o (first_of m)) (first_of-append (w ++ t) i ∙ ap (λ o. or_else o (first_of i)) (first_of-append w t)))

pub semidefinite_parts : (p : OfferPart) (d : ℕ) (s : Squares) (T : Matrix) (numbers : ℕ → ℕ → List ℤ) → first_of (semidefinite_tests p d s T numbers)
    ≡ or_else (first_of ((too_many_rows d s, refusal.Shape p) ∷ []))
    (or_else (or_else (first_of (weak_weight_tests p s)) (first_of (side_tests p d s.count s T numbers))) (first_of (dominance_tests p d s)))
semidefinite_parts p d s T numbers =
    let w = weak_weight_tests p s in
    let i = side_tests p d s.count s T numbers in
    let m = dominance_tests p d s in
    first_before (too_many_rows d s) (refusal.Shape p) (w ++ i ++ m)
    ∙ ap (or_else (first_of ((too_many_rows d s, refusal.Shape p) ∷ [])))
    (first_of-append (w ++ i) m ∙ ap (λ o. or_else o (first_of m)) (first_of-append w i))

pub good_shape : (d : ℕ) (s : Squares) → bad_rest d s ≡ false → s.count ≡ d → bad_shape d s ≡ false
good_shape d s h e = rw h (grind (arith, nat_tests, e))

pub few_rows : (d : ℕ) (s : Squares) → bad_rest d s ≡ false → s.count ≤ d → too_many_rows d s ≡ false
few_rows d s h e = rw h (grind (arith, nat_tests, e))

shaped : (b : Bool) (r : FormRefusal) (o : Option FormRefusal) → b ≡ false → or_else (first_of ((b, r) ∷ [])) o ≡ o
shaped b r o h = rw h refl

-- where the shape is right, and the tests before those of a part pass
pub definite_after_shape : (p : OfferPart) (d : ℕ) (s : Squares) (T : Matrix) → bad_shape d s ≡ false → first_of (definite_tests p d s T (λ i j. []))
    ≡ or_else (or_else (or_else (first_of (positive_weight_tests p d s)) (first_of (triangle_tests p d s))) (first_of (side_tests p d d s T (λ i j. [])))) (first_of (dominance_tests p d s))
definite_after_shape p d s T h =
    definite_parts p d s T (λ i j. [])
    ∙ shaped (bad_shape d s) (refusal.Shape p)
    (or_else (or_else (or_else (first_of (positive_weight_tests p d s)) (first_of (triangle_tests p d s))) (first_of (side_tests p d d s T (λ i j. [])))) (first_of (dominance_tests p d s))) h

pub semidefinite_after_shape : (p : OfferPart) (d : ℕ) (s : Squares) (T : Matrix) → too_many_rows d s ≡ false → first_of (semidefinite_tests p d s T (λ i j. []))
    ≡ or_else (or_else (first_of (weak_weight_tests p s)) (first_of (side_tests p d s.count s T (λ i j. [])))) (first_of (dominance_tests p d s))
semidefinite_after_shape p d s T h =
    semidefinite_parts p d s T (λ i j. [])
    ∙ shaped (too_many_rows d s) (refusal.Shape p)
    (or_else (or_else (first_of (weak_weight_tests p s)) (first_of (side_tests p d s.count s T (λ i j. [])))) (first_of (dominance_tests p d s))) h

-- ---- one place
pub record Passes (n : ℕ) (s : Squares) (x : ℤ) (i j : ℕ) : Type 0 where
  pub narrow : is_narrow (s.m *ℤ x) ≡ true
  pub rows : (k : ℕ) → k < n → is_narrow (weights_of s k *ℤ rows_of s k i) ≡ true
  pub identity : s.m *ℤ x ≡ right_side n s i j

-- none of the numbers at the places is wide
any_wide-map : (f : ℕ → ℤ) (is : List ℕ) → any_wide (map f is) ≡ list_any (λ k. not (is_narrow (f k))) is
any_wide-map f [] = refl
any_wide-map f (i ∷ is) = ap (λ w. not (is_narrow (f i)) || w) (any_wide-map f is)

pub each_narrow : (f : ℕ → ℤ) (n : ℕ) → any_wide (map f (places n)) ≡ false → (k : ℕ) → k < n → is_narrow (f k) ≡ true
each_narrow f n h k p = not_false (is_narrow (f k)) (any_each (λ k. not (is_narrow (f k))) n (sym (any_wide-map f (places n)) ∙ h) k p)

pub neither_wide : (xs ys : List ℤ) → any_wide (xs ++ ys) ≡ false → (any_wide xs ≡ false) × (any_wide ys ≡ false)
neither_wide xs ys h = neither_test (any_wide xs) (any_wide ys) (sym (any_wide-append xs ys) ∙ h)

pub place_passes : (p : OfferPart) (n : ℕ) (s : Squares) (x : ℤ) (numbers : List ℤ) (i j : ℕ) → first_of (place_tests p n s x numbers i j) ≡ None → Passes n s x i j
place_passes p n s x numbers i j h =
    let wide = any_wide (numbers ++ side_numbers n s x i j) in
    let apart = not (int_eq (s.m *ℤ x) (right_side n s i j)) in
    let both = neither (first_of ((wide, refusal.Wide p i j) ∷ [])) (first_of ((apart, refusal.Identity p i j) ∷ []))
    (sym (first_before wide (refusal.Wide p i j) ((apart, refusal.Identity p i j) ∷ [])) ∙ h) in
    let narrow = (neither_wide numbers (side_numbers n s x i j) (passes wide (refusal.Wide p i j) both.0)).1 in
    let same = passes apart (refusal.Identity p i j) both.1 in
    let rows = map (λ k. weights_of s k *ℤ rows_of s k i) (places n) in
    let terms = square_terms n s i j in
    let sums = partial_sums (pos 0) terms in
    let last = right_side n s i j ∷ [] in
    let parts = neither_test (not (is_narrow (s.m *ℤ x))) (any_wide (rows ++ terms ++ sums ++ last)) narrow in
    record {
      narrow = not_false (is_narrow (s.m *ℤ x)) parts.0;
      rows = each_narrow (λ k. weights_of s k *ℤ rows_of s k i) n
          (neither_wide rows terms (neither_wide (rows ++ terms) sums (neither_wide (rows ++ terms ++ sums) last parts.1).0).0).0;
      identity = (Decides-int_eq (s.m *ℤ x) (right_side n s i j)).0 (not_false (int_eq (s.m *ℤ x) (right_side n s i j)) same);
    }

-- each place from the diagonal on
pub sides_pass : (p : OfferPart) (d n : ℕ) (s : Squares) (T : Matrix) (numbers : ℕ → ℕ → List ℤ) → first_of (side_tests p d n s T numbers) ≡ None
    → (i j : ℕ) → i ≤ j → j < d → Passes n s (T i j) i j
sides_pass p d n s T numbers h i j q b =
    place_passes p n s (T i j) (numbers i j) i j
    (from_each (λ j. place_tests p n s (T i j) (numbers i j) i j) i d (none_each (row_tests p d n s T numbers) d h i (omega arith)) j q b)

-- ---- symmetry
pub symmetric_at : (d : ℕ) (R : Matrix) → is_symmetric d R ≡ true → (i j : ℕ) → i < d → j < d → R i j ≡ R j i
symmetric_at d R h i j a b =
    (Decides-int_eq (R i j) (R j i)).0 (all_each (λ j. int_eq (R i j) (R j i)) d (all_each (λ i. list_all (λ j. int_eq (R i j) (R j i)) (places d)) d h i a) j b)

pub symmetric_is : (d : ℕ) (R : Matrix) → ((i j : ℕ) → i < d → j < d → R i j ≡ R j i) → is_symmetric d R ≡ true
symmetric_is d R h = all_true (λ i. list_all (λ j. int_eq (R i j) (R j i)) (places d)) d
    (λ i a. all_true (λ j. int_eq (R i j) (R j i)) d (λ j b. (Decides-int_eq (R i j) (R j i)).1 (h i j a b)))

square-turned : (w : ℤ) (r : Vector) (i j : ℕ) → square w r i j ≡ square w r j i
square-turned w r i j = ring (env (w ∷ r i ∷ r j ∷ [])) (times (times (var 0) (var 1)) (var 2)) (times (times (var 0) (var 2)) (var 1)) refl

squares-turned : (n : ℕ) (w : Vector) (rows : ℕ → Vector) (i j : ℕ) → squares n w rows i j ≡ squares n w rows j i
squares-turned n w rows i j = sum_same n (λ k. square (w k) (rows k) i j) (λ k. square (w k) (rows k) j i) (λ k h. square-turned (w k) (rows k) i j)

-- the identity at each place of a symmetric form
pub identity_at : (p : OfferPart) (d n : ℕ) (s : Squares) (T : Matrix) → is_symmetric d T ≡ true → is_symmetric d (rest_of s) ≡ true
    → first_of (side_tests p d n s T (λ i j. [])) ≡ None
    → (i j : ℕ) → i < d → j < d → s.m *ℤ T i j ≡ squares n (weights_of s) (rows_of s) i j +ℤ rest_of s i j
identity_at p d n s T form rest h i j a b = elim (cases_lt j i) [
  | inl below ↦ ap (λ z. s.m *ℤ z) (symmetric_at d T form i j a b)
      ∙ (sides_pass p d n s T (λ i j. []) h j i (omega arith) a).identity
      ∙ rw (squares-turned n (weights_of s) (rows_of s) j i, symmetric_at d (rest_of s) rest j i b a) refl
  | inr from ↦ (sides_pass p d n s T (λ i j. []) h i j from b).identity
]

-- ---- the rest
pub less_not : (a b : ℤ) → int_lt a b ≡ false → b ≤ℤ a
less_not a b h = grind (arith, ints)

pub less : (a b : ℤ) → int_lt a b ≡ true → a <ℤ b
less a b h = grind (arith, ints)

more_than_none : (m : ℤ) → pos 1 ≤ℤ m → pos 0 <ℤ m
more_than_none m h = omega (arith, ints)

pub dominant : (p : OfferPart) (d : ℕ) (s : Squares) → is_symmetric d (rest_of s) ≡ true → first_of (dominance_tests p d s) ≡ None → IsDominant d (rest_of s)
dominant p d s rest h = record {
  symmetric = symmetric_at d (rest_of s) rest;
  dominant = λ i b. less_not (rest_of s i i) (sum_to d (λ j. beside (rest_of s) i j))
      (neither_test (any_wide (map (λ j. rest_of s i j) (places d) ++ partial_sums (pos 0) (sizes_beside d s i))) (int_lt (rest_of s i i) (sum_to d (λ j. beside (rest_of s) i j)))
      (tests_each (not_dominant d s) (refusal.Dominance p) d h i b)).1;
}

-- a rest that isn't bad
pub record IsGoodRest (d : ℕ) (s : Squares) : Type 0 where
  pub multiple : int_lt s.m (pos 1) ≡ false
  pub symmetric : is_symmetric d (rest_of s) ≡ true

pub good_rest : (d : ℕ) (s : Squares) → bad_rest d s ≡ false → IsGoodRest d s
good_rest d s h =
    let both = neither_test (int_lt s.m (pos 1)) (not (is_symmetric d (rest_of s))) h in
    record { multiple = both.0; symmetric = not_false (is_symmetric d (rest_of s)) both.1 }

pub positive_scale : (m : ℤ) → int_lt m (pos 1) ≡ false → pos 0 <ℤ m
positive_scale m h = more_than_none m (less_not m (pos 1) h)

-- ---- a definite part
pub record DefinitePasses (p : OfferPart) (d : ℕ) (s : Squares) (T : Matrix) (numbers : ℕ → ℕ → List ℤ) : Type 0 where
  pub rest : IsGoodRest d s
  pub count : s.count ≡ d
  pub weights : first_of (positive_weight_tests p d s) ≡ None
  pub triangle : first_of (triangle_tests p d s) ≡ None
  pub sides : first_of (side_tests p d d s T numbers) ≡ None
  pub dominance : first_of (dominance_tests p d s) ≡ None

pub same_count : (n d : ℕ) → (n == d) ≡ true → n ≡ d
same_count n d h = grind (arith, nat_tests)

pub definite_passes : (p : OfferPart) (d : ℕ) (s : Squares) (T : Matrix) (numbers : ℕ → ℕ → List ℤ) → first_of (definite_tests p d s T numbers) ≡ None → DefinitePasses p d s T numbers
definite_passes p d s T numbers h =
    let w = first_of (positive_weight_tests p d s) in
    let t = first_of (triangle_tests p d s) in
    let i = first_of (side_tests p d d s T numbers) in
    let m = first_of (dominance_tests p d s) in
    let shape = first_of ((bad_shape d s, refusal.Shape p) ∷ []) in
    let a = neither shape (or_else (or_else (or_else w t) i) m) (sym (definite_parts p d s T numbers) ∙ h) in
    let b = neither (or_else (or_else w t) i) m a.1 in
    let c = neither (or_else w t) i b.0 in
    let e = neither w t c.0 in
    let shaped = neither_test (bad_rest d s) (not (s.count == d)) (passes (bad_shape d s) (refusal.Shape p) a.0) in
    record {
      rest = good_rest d s shaped.0;
      count = same_count s.count d (not_false (s.count == d) shaped.1);
      weights = e.0;
      triangle = e.1;
      sides = c.1;
      dominance = b.1;
    }

before_own : (s : Squares) (k j : ℕ) → bad_row s k ≡ false → j < k → rows_of s k j ≡ pos 0
before_own s k j h b =
    let both = neither_test (list_any (λ j. not (int_eq (rows_of s k j) (pos 0))) (places k)) (int_eq (rows_of s k k) (pos 0)) h in
    (Decides-int_eq (rows_of s k j) (pos 0)).0 (not_false (int_eq (rows_of s k j) (pos 0)) (any_each (λ j. not (int_eq (rows_of s k j) (pos 0))) k both.0 j b))

apart : {b : Bool} → b ≡ false → b ≡ true → ⊥
apart h k = cc

pub own_apart : (s : Squares) (k : ℕ) → bad_row s k ≡ false → rows_of s k k ≢ pos 0
own_apart s k h e =
    apart ((neither_test (list_any (λ j. not (int_eq (rows_of s k j) (pos 0))) (places k)) (int_eq (rows_of s k k) (pos 0)) h).1) ((Decides-int_eq (rows_of s k k) (pos 0)).1 e)

pub shows_positive : (p : OfferPart) (d : ℕ) (s : Squares) (T : Matrix) → is_symmetric d T ≡ true → first_of (definite_tests p d s T (λ i j. [])) ≡ None → ShowPositive d T
shows_positive p d s T form h =
    let o = definite_passes p d s T (λ i j. []) h in
    let row : (k : ℕ) → k < d → bad_row s k ≡ false = tests_each (bad_row s) (refusal.Triangle p) d o.triangle in
    record {
      scale = s.m;
      weights = weights_of s;
      rows = rows_of s;
      rest = rest_of s;
      positive = positive_scale s.m o.rest.multiple;
      identity = identity_at p d d s T form o.rest.symmetric o.sides;
      triangular = record {
        weight = λ k b. less (pos 0) (weights_of s k) (not_false (int_lt (pos 0) (weights_of s k)) (tests_each (bad_weight s) (refusal.Weight p) d o.weights k b));
        before = λ k j a b. before_own s k j (row k b) a;
        own = λ k b. own_apart s k (row k b);
      };
      dominant = dominant p d s o.rest.symmetric o.dominance;
    }

-- ---- a semidefinite part
pub record SemidefinitePasses (p : OfferPart) (d : ℕ) (s : Squares) (T : Matrix) : Type 0 where
  pub rest : IsGoodRest d s
  pub weights : first_of (weak_weight_tests p s) ≡ None
  pub sides : first_of (side_tests p d s.count s T (λ i j. [])) ≡ None
  pub dominance : first_of (dominance_tests p d s) ≡ None

pub semidefinite_passes : (p : OfferPart) (d : ℕ) (s : Squares) (T : Matrix) → first_of (semidefinite_tests p d s T (λ i j. [])) ≡ None → SemidefinitePasses p d s T
semidefinite_passes p d s T h =
    let w = first_of (weak_weight_tests p s) in
    let i = first_of (side_tests p d s.count s T (λ i j. [])) in
    let m = first_of (dominance_tests p d s) in
    let shape = first_of ((too_many_rows d s, refusal.Shape p) ∷ []) in
    let a = neither shape (or_else (or_else w i) m) (sym (semidefinite_parts p d s T (λ i j. [])) ∙ h) in
    let b = neither (or_else w i) m a.1 in
    let c = neither w i b.0 in
    record {
      rest = good_rest d s (neither_test (bad_rest d s) (nat_lt d s.count) (passes (too_many_rows d s) (refusal.Shape p) a.0)).0;
      weights = c.0;
      sides = c.1;
      dominance = b.1;
    }

pub shows_not_negative : (p : OfferPart) (d : ℕ) (s : Squares) (T : Matrix) → is_symmetric d T ≡ true → first_of (semidefinite_tests p d s T (λ i j. [])) ≡ None → ShowNotNegative d T
shows_not_negative p d s T form h =
    let o = semidefinite_passes p d s T h in
    record {
      scale = s.m;
      count = s.count;
      weights = weights_of s;
      rows = rows_of s;
      rest = rest_of s;
      positive = positive_scale s.m o.rest.multiple;
      identity = identity_at p d s.count s T form o.rest.symmetric o.sides;
      weight = λ k b. less_not (weights_of s k) (pos 0) (tests_each (negative_weight s) (refusal.Weight p) s.count o.weights k b);
      dominant = dominant p d s o.rest.symmetric o.dominance;
    }
