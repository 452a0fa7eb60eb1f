-- The numbers of an accepted offer are small.
use Rattle.std.proofs.Common.{◌≡◌, ◌≢◌, ℕ, zero, suc, ◌-◌, ◌*◌, ◌<◌, ◌≤◌, true, int_lt, List, [], ◌++◌, length, map, None, inl, inr, sym, ap, subst, ◌∙◌, arith}
use Rattle.std.proofs.Math.IntN.{ℤ, pos, *ℤ_comm, ◌*ℤ◌}
use Rattle.std.specs.Int.RustNames.{unsigned_abs}
use Rattle.std.proofs.lemmas.Bool.{cases_lt}
use Rattle.std.proofs.lemmas.Bool.Decides.{nat_tests}
use Rattle.std.proofs.lemmas.Int.{unsigned_abs-mul, ints}
use lib.Signed.{◌<ℤ◌}
use Rattle.dsv_algebra.specs.Narrow.{is_narrow}
use Rattle.dsv_algebra.specs.Vectors.{Vector, Matrix, vector_of, matrix_of}
use Rattle.dsv_algebra.specs.Companion.{fall_entry}
use Rattle.dsv_forms.specs.OfferLaws.{AreNarrow, IsNarrow, AcceptedAreNarrow}
use Rattle.dsv_forms.specs.Refusals.{first_of, places, any_wide, partial_sums, is_symmetric, weights_of, rows_of, rest_of, sizes_beside, not_dominant, dominance_tests, bad_weight, bad_row, positive_weight_tests, definite_tests, fall_numbers}
use Rattle.dsv_forms.specs.declared.offers.Squares.{Squares}
use Rattle.dsv_forms.specs.declared.offers.Falls.{Falls}
use Rattle.dsv_forms.specs.declared.refusal.OfferPart.{OfferPart}
use Rattle.dsv_forms.specs.declared.refusal.OfferPart.TheVariants as part
use Rattle.dsv_forms.specs.declared.refusal.FormRefusal.TheVariants as refusal
use Rattle.dsv_forms.proofs.OfferLemmas.{positive_apart, FallsPass, falls_passes}
use Rattle.dsv_forms.proofs.Places.{neither_test, not_false, tests_each}
use Rattle.dsv_forms.proofs.Shown.{definite_passes, sides_pass, each_narrow, neither_wide, positive_scale, symmetric_at, less, own_apart}

-- a factor of a narrow product beside a positive one is narrow
more : (m n : ℕ) → 0 < m → n ≤ m * n
more zero n h = absurd (omega arith)
more (suc m) n h = omega arith

narrow_factor : (m x : ℤ) → m ≢ pos 0 → is_narrow (m *ℤ x) ≡ true → is_narrow x ≡ true
narrow_factor m x h n =
    let size = unsigned_abs-mul m x in
    let some : 0 < unsigned_abs m = omega (arith, ints, h) in
    let least = more (unsigned_abs m) (unsigned_abs x) some in
    grind (arith, nat_tests)

-- ---- squares
weight_positive : (p : OfferPart) (d : ℕ) (s : Squares) → first_of (positive_weight_tests p d s) ≡ None → (k : ℕ) → k < d → pos 0 <ℤ weights_of s k
weight_positive p d s h k q = less (pos 0) (weights_of s k) (not_false (int_lt (pos 0) (weights_of s k)) (tests_each (bad_weight s) (refusal.Weight p) d h k q))

rest_narrow : (p : OfferPart) (d : ℕ) (s : Squares) → first_of (dominance_tests p d s) ≡ None → (i j : ℕ) → i < d → j < d → is_narrow (rest_of s i j) ≡ true
rest_narrow p d s h i j a b =
    let row = map (λ j. rest_of s i j) (places d) in
    let sums = partial_sums (pos 0) (sizes_beside d s i) in
    let test = tests_each (not_dominant d s) (refusal.Dominance p) d h i a in
    each_narrow (λ j. rest_of s i j) d (neither_wide row sums (neither_test (any_wide (row ++ sums)) _ test).0).0 j b

squares_narrow : (p : OfferPart) (d : ℕ) (s : Squares) (T : Matrix) (numbers : ℕ → ℕ → List ℤ) → first_of (definite_tests p d s T numbers) ≡ None → AreNarrow d s
squares_narrow p d s T numbers h =
    let o = definite_passes p d s T numbers h in
    let row : (k j : ℕ) → k < d → j < d → is_narrow (weights_of s k *ℤ rows_of s k j) ≡ true =
    λ k j a b. (sides_pass p d d s T numbers o.sides j j (omega arith) b).rows k a in
    record {
      factor = positive_scale s.m o.rest.multiple;
      count = o.count;
      weights = λ k a. narrow_factor (rows_of s k k) (weights_of s k) (own_apart s k (tests_each (bad_row s) (refusal.Triangle p) d o.triangle k a))
          (ap is_narrow (*ℤ_comm (rows_of s k k) (weights_of s k)) ∙ row k k a a);
      rows = λ k j a b. narrow_factor (weights_of s k) (rows_of s k j) (positive_apart (weights_of s k) (weight_positive p d s o.weights k a)) (row k j a b);
      rest = rest_narrow p d s o.dominance;
    }

-- ---- the form
upper_narrow : (p : OfferPart) (d : ℕ) (s : Squares) (T : Matrix) → first_of (definite_tests p d s T (λ i j. [])) ≡ None → (i j : ℕ) → i ≤ j → j < d → is_narrow (T i j) ≡ true
upper_narrow p d s T h i j q b =
    let o = definite_passes p d s T (λ i j. []) h in
    narrow_factor s.m (T i j) (positive_apart s.m (positive_scale s.m o.rest.multiple)) (sides_pass p d d s T (λ i j. []) o.sides i j q b).narrow

form_narrow : (p : OfferPart) (d : ℕ) (s : Squares) (T : Matrix) → is_symmetric d T ≡ true → first_of (definite_tests p d s T (λ i j. [])) ≡ None
    → (i j : ℕ) → i < d → j < d → is_narrow (T i j) ≡ true
form_narrow p d s T form h i j a b = elim (cases_lt j i) [
  | inl below ↦ ap is_narrow (symmetric_at d T form i j a b) ∙ upper_narrow p d s T h j i (omega arith) a
  | inr from ↦ upper_narrow p d s T h i j from b
]

-- ---- offers
squares_at : (d e : ℕ) (s : Squares) → e ≡ d → AreNarrow d s → AreNarrow e s
squares_at d e s same a = subst (λ n. AreNarrow n s) (sym same) a

-- so they are in an offer whose form and whatever it loses pass the tests of their squares
pub parts_narrow : (d : ℕ) (offer : Falls) (T : Matrix) (numbers : ℕ → ℕ → List ℤ) → offer.form.d ≡ d → is_symmetric d (matrix_of offer.form.rows) ≡ true
    → first_of (definite_tests part.Positive d offer.positive (matrix_of offer.form.rows) (λ i j. [])) ≡ None → first_of (definite_tests part.Fall d offer.fall T numbers) ≡ None → IsNarrow offer
parts_narrow d offer T numbers same form first second =
    let P = matrix_of offer.form.rows in
    record {
      form = λ i j k l. form_narrow part.Positive d offer.positive P form first i j (omega (arith, same, k)) (omega (arith, same, l));
      positive = squares_at d offer.form.d offer.positive same (squares_narrow part.Positive d offer.positive P (λ i j. []) first);
      fall = squares_at d offer.form.d offer.fall same (squares_narrow part.Fall d offer.fall T numbers second);
    }

narrow_at : (d : ℕ) (c : Vector) (offer : Falls) → FallsPass d c offer → IsNarrow offer
narrow_at d c offer o =
    let P = matrix_of offer.form.rows in
    parts_narrow d offer (fall_entry d c P) (fall_numbers d c P) o.places o.symmetric o.positive o.fall

pub accepted_are_narrow : AcceptedAreNarrow
accepted_are_narrow c offer h = narrow_at (length c - 1) (vector_of c) offer (falls_passes (length c - 1) (vector_of c) offer h)
