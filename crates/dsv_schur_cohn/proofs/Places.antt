-- The offer from a place of the diagonal at which the form is negative.
use Rattle.std.proofs.Common.{◌≡◌, ◌≢◌, ℕ, ◌-◌, ◌^◌, ◌<◌, ◌≤◌, ◌==◌, if◌then◌else◌, true, false, int_lt, List, [], length, None, inl, inr, ◌∙◌, arith}
use Rattle.std.proofs.Math.IntN.{ℤ, pos, ◌*ℤ◌, *ℤ-zero, zero-*ℤ}
use Rattle.std.specs.Int.RustNames.{unsigned_abs}
use Rattle.std.proofs.lemmas.Bool.{cases_lt}
use Rattle.std.proofs.lemmas.Bool.Decides.{nat_tests}
use Rattle.std.proofs.lemmas.Int.{ints}
use Rattle.std.proofs.lemmas.List.{get_or_past}
use Rattle.std.proofs.lemmas.List.Elements.{All-get_or}
use Rattle.dsv_algebra.specs.Vectors.{Vector, Matrix, sum_to, form_at, vector_of, matrix_of}
use Rattle.dsv_algebra.proofs.Sums.{sum_same, sum_none, sum_one}
use Rattle.dsv_forms.proofs.Passing.{Within}
use Rattle.dsv_forms.specs.Poly.{most_coefficients}
use Rattle.dsv_forms.specs.Refusals.{kept_away_refusal}
use Rattle.dsv_table.specs.SchurCohn.{schur_cohn}
use Rattle.dsv_schur_cohn.specs.Offer.{schur_cohn_form, negative_offer, IsSmall}
use Rattle.dsv_schur_cohn.proofs.Accepted.{narrow_accepted}
use Rattle.dsv_schur_cohn.proofs.Entries.{entry_inside}
use Rattle.dsv_schur_cohn.proofs.Sizes.{small_narrow}
use Rattle.dsv_closed_forms.proofs.RootAccepted.{by_one}
use lib.Signed.{◌<ℤ◌}

-- ---- a vector with 1 at one place, and 0 elsewhere

abbrev unit : ℕ → Vector
unit i j = if j == i then pos 1 else pos 0

at_place : (i : ℕ) → unit i i ≡ pos 1
at_place i = grind (arith, nat_tests)

elsewhere : (i j : ℕ) → j ≢ i → unit i j ≡ pos 0
elsewhere i j n = grind (arith, nat_tests)

unit_within : (i j : ℕ) → Within 1 (unit i j)
unit_within i j = grind (arith, nat_tests)

-- a form at it is its entry there
form_at_unit : (d : ℕ) (P : Matrix) (v : Vector) (i : ℕ) → i < d → ((j : ℕ) → v j ≡ unit i j) → form_at d P v ≡ P i i
form_at_unit d P v i below h =
    let own : v i ≡ pos 1 = h i ∙ at_place i in
    let none : (j : ℕ) → j ≢ i → v j ≡ pos 0 = λ j n. h j ∙ elsewhere i j n in
    sum_one d (λ k. sum_to d (λ j. P k j *ℤ v k *ℤ v j)) i below
    (λ k l n. sum_same d (λ j. P k j *ℤ v k *ℤ v j) (λ j. pos 0) (λ j m. rw (none k n, *ℤ-zero (P k j)) (zero-*ℤ (v j))) ∙ sum_none d)
    ∙ sum_one d (λ j. P i j *ℤ v i *ℤ v j) i below (λ j l n. rw (none j n) (*ℤ-zero (P i j *ℤ v i)))
    ∙ rw own (by_one (P i i))

-- ---- the offer

small_within : (cs : List ℤ) → IsSmall cs → (k : ℕ) → Within (2 ^ 29) (vector_of cs k)
small_within cs h k = elim (cases_lt k (length cs)) [
  | inl l ↦ All-get_or (λ z. unsigned_abs z ≤ 2 ^ 29) cs k (pos 0) l h
  | inr g ↦ rw (get_or_past cs k (pos 0) g) (omega arith)
]

is_negative : (z : ℤ) → int_lt z (pos 0) ≡ true → z <ℤ pos 0
is_negative z h = grind (arith, ints)

is_not_negative : (z : ℤ) → int_lt z (pos 0) ≡ false → z <ℤ pos 0 → ⊥
is_not_negative z h k = grind (arith, ints)

-- the diagonal of the form that is offered
pub diagonal : (cs : List ℤ) (i : ℕ) → length cs ≤ most_coefficients → i < length cs - 1 → matrix_of (schur_cohn_form cs).rows i i ≡ schur_cohn (length cs - 1) (vector_of cs) i i
diagonal cs i few below = entry_inside (length cs - 1) (schur_cohn (length cs - 1) (vector_of cs)) i i (omega arith) below below

pub place_accepted : (cs start : List ℤ) (i : ℕ) → length cs ≤ most_coefficients → IsSmall cs → i < length cs - 1
    → int_lt (matrix_of (schur_cohn_form cs).rows i i) (pos 0) ≡ true
    → ((j : ℕ) → vector_of start j ≡ (if j == i then pos 1 else pos 0))
    → kept_away_refusal cs (negative_offer cs start) ≡ None
place_accepted cs start i few small below negative h =
    let d = length cs - 1 in
    let H = schur_cohn d (vector_of cs) in
    let some : 2 ≤ length cs = omega arith in
    let there : H i i <ℤ pos 0 = rw (diagonal cs i few below) at (is_negative (matrix_of (schur_cohn_form cs).rows i i) negative) in
    let value : form_at d H (vector_of start) <ℤ pos 0 = rw (form_at_unit d H (vector_of start) i below h) there in
    narrow_accepted cs start some few
    (small_narrow (2 ^ 29) 1 cs start some few (small_within cs small) (λ k. rw (h k) (unit_within i k)) (omega arith) (omega arith))
    value

-- where no place of it is negative, the diagonal is not
pub none_negative : (cs : List ℤ) (i : ℕ) → length cs ≤ most_coefficients → i < length cs - 1 → int_lt (matrix_of (schur_cohn_form cs).rows i i) (pos 0) ≡ false
    → schur_cohn (length cs - 1) (vector_of cs) i i <ℤ pos 0 → ⊥
none_negative cs i few below h negative =
    is_not_negative (matrix_of (schur_cohn_form cs).rows i i) h (rw (diagonal cs i few below) negative)
