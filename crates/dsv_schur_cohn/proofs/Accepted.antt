-- The offer of a Schur-Cohn form is accepted where its numbers are narrow.
use Rattle.std.proofs.Common.{◌≡◌, ℕ, zero, suc, ◌-◌, ◌^◌, ◌<◌, ◌≤◌, true, false, nat_le, nat_lt, List, [], ◌∷◌, ◌++◌, length, filter, inl, inr, None, refl, sym, ap, ◌∙◌, arith}
use Rattle.std.proofs.Math.IntN.{ℤ, pos, ◌*ℤ◌}
use Rattle.std.specs.List.{All, flat_map, list_all}
use Rattle.std.specs.Ordering.{int_eq}
use Rattle.std.proofs.lemmas.Bool.{cases_lt}
use Rattle.std.proofs.lemmas.Bool.Decides.{nat_tests}
use Rattle.std.proofs.lemmas.List.Elements.{All-head, All-tail}
use Rattle.std.proofs.lemmas.Int.{ints}
use lib.Signed.{◌<ℤ◌}
use Rattle.dsv_algebra.specs.Vectors.{Vector, Matrix, form_at, vector_of, matrix_of}
use Rattle.dsv_algebra.specs.Companion.{fall_entry}
use Rattle.dsv_algebra.proofs.Sums.{form_same}
use Rattle.dsv_forms.specs.declared.offers.Squares.{Squares}
use Rattle.dsv_forms.specs.declared.offers.KeptAway.{KeptAway}
use Rattle.dsv_forms.specs.declared.refusal.OfferPart.{OfferPart}
use Rattle.dsv_forms.specs.declared.refusal.OfferPart.TheVariants as part
use Rattle.dsv_forms.specs.declared.refusal.FormRefusal.TheVariants as refusal
use Rattle.dsv_forms.specs.Padded.{matrix_with}
use Rattle.dsv_forms.specs.Poly.{greatest_order, most_coefficients}
use Rattle.dsv_forms.specs.Refusals.{Test, places, places_from, any_wide, is_symmetric, rest_of, right_side, side_numbers, place_tests, side_tests, dominance_tests, too_many_rows, negative_weight, weak_weight_tests, semidefinite_tests, bad_form, fall_numbers, value_numbers, start_tests, kept_away_refusal}
use Rattle.dsv_forms.proofs.Passing.{Passed, none_refuses, passed_both, places_below, passed_map, passed_flat}
use Rattle.dsv_forms.proofs.PassingOffers.{IsDiagonal, same_test, dominance_passes, below_zero}
use Rattle.dsv_forms.proofs.Places.{all_true}
use Rattle.dsv_sums.specs.Elimination.{entries_of, rows_of}
use Rattle.dsv_sums.proofs.Filled.{many}
use Rattle.dsv_table.specs.SchurCohn.{schur_cohn, lost_row}
use Rattle.dsv_schur_cohn.specs.Offer.{negative_offer, HasNarrowNumbers, IsNegativeAt}
use Rattle.dsv_schur_cohn.proofs.Entries.{entry_inside, entry_below, entry_beside, one_row, no_rest}
use Rattle.dsv_table.proofs.Identity.{by_itself, symmetric, none_in_last_row, none_in_last_column, loses_a_square}
use Rattle.dsv_closed_forms.proofs.RootAccepted.{places_same}

-- ---- a part with squares and a rest on the diagonal, from the tests of its numbers

passed_from : (i d : ℕ) (f : ℕ → List Test) (is : List ℕ) → All (λ j. j < d) is → ((j : ℕ) → i ≤ j → j < d → Passed (f j)) → Passed (flat_map f (filter (λ j. nat_le i j) is))
passed_from i d f [] h k = tt
passed_from i d f (j ∷ is) h k =
    let below : j < d = All-head (λ j. j < d) j is h in
    let others = passed_from i d f is (All-tail (λ j. j < d) j is h) k in
    elim (cases_lt j i) [
      | inl l ↦ (let e : nat_le i j ≡ false = grind (arith, nat_tests) in rw e others)
      | inr g ↦ (let e : nat_le i j ≡ true = grind (arith, nat_tests) in rw e (passed_both (f j) (flat_map f (filter (λ j. nat_le i j) is)) (k j g below) others))
    ]

-- what a part of semidefinite squares has to show
pub record IsWeakPart (d e : ℕ) (s : Squares) (T : Matrix) (numbers : ℕ → ℕ → List ℤ) : Type 0 where
  pub shape : too_many_rows d s ≡ false
  pub weights : (k : ℕ) → k < s.count → negative_weight s k ≡ false
  pub narrow : (i j : ℕ) → i ≤ j → j < d → any_wide (numbers i j ++ side_numbers s.count s (T i j) i j) ≡ false
  pub same : (i j : ℕ) → i < d → j < d → s.m *ℤ T i j ≡ right_side s.count s i j
  pub rest : IsDiagonal d e s
  pub small : e < 2 ^ 126

pub weak_passes : (p : OfferPart) (d e : ℕ) (s : Squares) (T : Matrix) (numbers : ℕ → ℕ → List ℤ) → IsWeakPart d e s T numbers → Passed (semidefinite_tests p d s T numbers)
weak_passes p d e s T numbers h =
    let at : ℕ → ℕ → List Test = λ i j. place_tests p s.count s (T i j) (numbers i j) i j in
    let place : (i j : ℕ) → i ≤ j → i < d → j < d → Passed (at i j) = λ i j a b c.
    (h.narrow i j a c, (rw (same_test (s.m *ℤ T i j) (right_side s.count s i j) (h.same i j b c)) refl, tt)) in
    let sides : Passed (side_tests p d s.count s T numbers) =
    passed_flat d (λ i. flat_map (at i) (places_from i d)) (places d) (places_below d) (λ i a. passed_from i d (at i) (places d) (places_below d) (λ j b c. place i j b a c)) in
    let weights : Passed (weak_weight_tests p s) = passed_map s.count (λ k. (negative_weight s k, refusal.Weight p k)) (places s.count) (places_below s.count) h.weights in (
      h.shape,
      passed_both (weak_weight_tests p s ++ side_tests p d s.count s T numbers) (dominance_tests p d s)
          (passed_both (weak_weight_tests p s) (side_tests p d s.count s T numbers) weights sides) (dominance_passes p d e s h.rest h.small),
    )

pub kept_away_by : (cs : List ℤ) (offer : KeptAway) (d e : ℕ) → length cs - 1 ≡ d → bad_form d offer.form ≡ false
    → IsWeakPart d e offer.fall (fall_entry d (vector_of cs) (matrix_of offer.form.rows)) (fall_numbers d (vector_of cs) (matrix_of offer.form.rows))
    → any_wide (value_numbers d (matrix_of offer.form.rows) (vector_of offer.start)) ≡ false → form_at d (matrix_of offer.form.rows) (vector_of offer.start) <ℤ pos 0
    → kept_away_refusal cs offer ≡ None
kept_away_by cs offer d e order form fall numbers negative =
    let P = matrix_of offer.form.rows in
    let c = vector_of cs in
    let v = vector_of offer.start in
    let b = weak_passes part.Fall d e offer.fall (fall_entry d c P) (fall_numbers d c P) fall in
    let start : Passed (start_tests d P v) = (numbers, (rw (below_zero (form_at d P v) negative) refl, tt)) in
    rw order (none_refuses ((bad_form d offer.form, refusal.Shape part.Form) ∷ semidefinite_tests part.Fall d offer.fall (fall_entry d c P) (fall_numbers d c P) ++ start_tests d P v)
    (form, passed_both (semidefinite_tests part.Fall d offer.fall (fall_entry d c P) (fall_numbers d c P)) (start_tests d P v) b start))

-- ---- the form

-- The filled matrix is the form also in the row and the column after its places, where both are 0.
pub filled_is : (d : ℕ) (c : Vector) (i j : ℕ) → d ≤ greatest_order → i ≤ d → j ≤ d → matrix_of (matrix_with (rows_of d (schur_cohn d c))) i j ≡ schur_cohn d c i j
filled_is d c i j few h k =
    let H = schur_cohn d c in
    elim (cases_lt i d) [
      | inr g ↦ (let last : i ≡ d = omega arith in entry_below d H i j few g ∙ sym (ap (λ n. H n j) last ∙ none_in_last_row d c j k))
      | inl l ↦ elim (cases_lt j d) [
        | inr g ↦ (let last : j ≡ d = omega arith in entry_beside d H i j few l g ∙ sym (ap (λ n. H i n) last ∙ none_in_last_column d c i h))
        | inl b ↦ entry_inside d H i j few l b
      ]
    ]

-- the fall form's entries read no entry past that row and column
same_fall : (d : ℕ) (c : Vector) (P Q : Matrix) (i j : ℕ) → ((k l : ℕ) → k ≤ d → l ≤ d → P k l ≡ Q k l) → i < d → j < d → fall_entry d c P i j ≡ fall_entry d c Q i j
same_fall d c P Q i j same h k =
    rw (same i j (omega arith) (omega arith), same 0 0 (omega arith) (omega arith), same 0 (suc j) (omega arith) (omega arith), same (suc i) 0 (omega arith) (omega arith), same (suc i) (suc j) (omega arith) (omega arith)) refl

pub filled_fall : (d : ℕ) (c : Vector) (i j : ℕ) → d ≤ greatest_order → i < d → j < d
    → fall_entry d c (matrix_of (matrix_with (rows_of d (schur_cohn d c)))) i j ≡ lost_row d c i *ℤ lost_row d c j
filled_fall d c i j few h k =
    same_fall d c (matrix_of (matrix_with (rows_of d (schur_cohn d c)))) (schur_cohn d c) i j (λ k l a b. filled_is d c k l few a b) h k
    ∙ loses_a_square d c i j h k

-- ---- the offer

symmetric_in : (d : ℕ) (R : Matrix) → ((i j : ℕ) → i < d → j < d → R i j ≡ R j i) → is_symmetric d R ≡ true
symmetric_in d R h = all_true (λ i. list_all (λ j. int_eq (R i j) (R j i)) (places d)) d (λ i a. all_true (λ j. int_eq (R i j) (R j i)) d (λ j b. same_test (R i j) (R j i) (h i j a b)))

few_rows : (d : ℕ) → 1 ≤ d → nat_lt d 1 ≡ false
few_rows d h = grind (nat_tests, arith)

one_weight : (cs start : List ℤ) (k : ℕ) → k < 1 → negative_weight (negative_offer cs start).fall k ≡ false
one_weight cs start zero h = refl
one_weight cs start (suc k) h = absurd (omega arith)

pub narrow_accepted : (cs start : List ℤ) → 2 ≤ length cs → length cs ≤ most_coefficients → HasNarrowNumbers cs start → IsNegativeAt cs start → kept_away_refusal cs (negative_offer cs start) ≡ None
narrow_accepted cs start some few narrow negative =
    let d = length cs - 1 in
    let c = vector_of cs in
    let H = schur_cohn d c in
    let offer = negative_offer cs start in
    let s = offer.fall in
    let P = matrix_of offer.form.rows in
    let g = lost_row d c in
    let order : d ≤ greatest_order = omega arith in
    let own : (i j : ℕ) → i < d → j < d → P i j ≡ H i j = λ i j a b. entry_inside d H i j order a b in
    let row : (j : ℕ) → j < d → matrix_of s.rows 0 j ≡ g j = λ j a. one_row d g j order a in
    let form : bad_form d offer.form ≡ false =
    rw (places_same (length (rows_of d H)) d (many (λ i. entries_of d (H i)) d), symmetric_in d P (λ i j a b. own i j a b ∙ symmetric d c i j ∙ sym (own j i b a))) refl in
    kept_away_by cs offer d 0 refl form
    (record {
      shape = rw (symmetric_in d (rest_of s) (λ i j a b. no_rest i j ∙ sym (no_rest j i)), few_rows d (omega arith)) refl;
      weights = one_weight cs start;
      narrow = narrow.sides;
      same = λ i j a b. ap (λ z. pos 1 *ℤ z) (filled_fall d c i j order a b) ∙ by_itself (g i) (g j) ∙ sym (rw (row i a, row j b, no_rest i j) refl);
      rest = record { off = λ i j e. no_rest i j; sign = λ i l. rw (no_rest i i) (omega (arith, ints)); small = λ i l. rw (no_rest i i) (omega arith) };
      small = omega arith;
    })
    narrow.value
    (rw (form_same d P H (vector_of start) own) negative)
