-- What an accepted offer of a Schur-Cohn form shows: its numbers are narrow, and the form is negative.
use Rattle.std.proofs.Common.{◌≡◌, ℕ, ◌-◌, ◌<◌, ◌≤◌, false, not, ◌++◌, List, [], ◌∷◌, length, None, sym, ◌∙◌, arith}
use Rattle.std.proofs.Math.IntN.{ℤ, pos, ◌*ℤ◌}
use Rattle.std.specs.Ordering.{int_eq}
use Rattle.std.specs.Prelude.{int_lt}
use lib.Signed.{◌<ℤ◌}
use Rattle.dsv_algebra.specs.Vectors.{Vector, Matrix, form_at, vector_of, matrix_of}
use Rattle.dsv_algebra.specs.Companion.{fall_entry}
use Rattle.dsv_algebra.proofs.Sums.{form_same}
use Rattle.dsv_forms.specs.declared.offers.Squares.{Squares}
use Rattle.dsv_forms.specs.declared.refusal.OfferPart.{OfferPart}
use Rattle.dsv_forms.specs.declared.refusal.OfferPart.TheVariants as part
use Rattle.dsv_forms.specs.declared.refusal.FormRefusal.TheVariants as refusal
use Rattle.dsv_forms.specs.Poly.{greatest_order}
use Rattle.dsv_forms.specs.Refusals.{first_of, place_tests, row_tests, any_wide, side_numbers, side_tests, dominance_tests, right_side, too_many_rows, weak_weight_tests, semidefinite_tests, fall_numbers, value_numbers, form_tests, start_tests, kept_away_refusal}
use Rattle.dsv_forms.proofs.OfferLemmas.{kept_away_parts}
use Rattle.dsv_forms.proofs.Places.{or_else, neither, first_before, passes, none_each, from_each}
use Rattle.dsv_forms.proofs.Shown.{semidefinite_parts}
use Rattle.dsv_forms.proofs.Values.{value_negative}
use Rattle.dsv_table.specs.SchurCohn.{schur_cohn}
use Rattle.dsv_schur_cohn.specs.Offer.{negative_offer, HasNarrowNumbers, IsNegativeAt, AreAcceptedWhereNarrow}
use Rattle.dsv_schur_cohn.proofs.Accepted.{narrow_accepted}
use Rattle.dsv_schur_cohn.proofs.Entries.{entry_inside}

-- the numbers on the way of accepted squares
sides_narrow : (p : OfferPart) (d : ℕ) (s : Squares) (T : Matrix) (numbers : ℕ → ℕ → List ℤ) → first_of (semidefinite_tests p d s T numbers) ≡ None
    → (i j : ℕ) → i ≤ j → j < d → any_wide (numbers i j ++ side_numbers s.count s (T i j) i j) ≡ false
sides_narrow p d s T numbers h i j l b =
    let w = first_of (weak_weight_tests p s) in
    let sides = first_of (side_tests p d s.count s T numbers) in
    let m = first_of (dominance_tests p d s) in
    let shape = neither (first_of ((too_many_rows d s, refusal.Shape p) ∷ [])) (or_else (or_else w sides) m) (sym (semidefinite_parts p d s T numbers) ∙ h) in
    let all = (neither w sides (neither (or_else w sides) m shape.1).0).1 in
    let row = none_each (row_tests p d s.count s T numbers) d all i (omega arith) in
    let place = from_each (λ j. place_tests p s.count s (T i j) (numbers i j) i j) i d row j l b in
    let wide = any_wide (numbers i j ++ side_numbers s.count s (T i j) i j) in
    let rest = (not (int_eq (s.m *ℤ T i j) (right_side s.count s i j)), refusal.Identity p i j) ∷ [] in
    passes wide (refusal.Wide p i j) (neither (first_of ((wide, refusal.Wide p i j) ∷ [])) (first_of rest) (sym (first_before wide (refusal.Wide p i j) rest) ∙ place)).0

start_narrow : (d : ℕ) (P : Matrix) (v : Vector) → first_of (start_tests d P v) ≡ None → any_wide (value_numbers d P v) ≡ false
start_narrow d P v h =
    let wide = any_wide (value_numbers d P v) in
    let rest = (not (int_lt (form_at d P v) (pos 0)), refusal.StartNotNegative (form_at d P v)) ∷ [] in
    passes wide (refusal.Wide part.Start 0 0) (neither (first_of ((wide, refusal.Wide part.Start 0 0) ∷ [])) (first_of rest) (sym (first_before wide (refusal.Wide part.Start 0 0) rest) ∙ h)).0

pub accepted_where_narrow : AreAcceptedWhereNarrow
accepted_where_narrow cs start some few =
    let d = length cs - 1 in
    let c = vector_of cs in
    let v = vector_of start in
    let H = schur_cohn d c in
    let offer = negative_offer cs start in
    let P = matrix_of offer.form.rows in
    let order : d ≤ greatest_order = omega arith in
    let squares = first_of (semidefinite_tests part.Fall d offer.fall (fall_entry d c P) (fall_numbers d c P)) in
    let last = first_of (start_tests d P v) in
    let first = first_of (form_tests d offer.form) in
    let onto : kept_away_refusal cs offer ≡ None → HasNarrowNumbers cs start × IsNegativeAt cs start = λ h.
    (let parts = (neither first (or_else squares last) (sym (kept_away_parts d c offer) ∙ h)).1 in
    let both = neither squares last parts in
    let negative : form_at d P v <ℤ pos 0 = value_negative d P v both.1 in
    let same : form_at d P v ≡ form_at d H v = form_same d P H v (λ i j a b. entry_inside d H i j order a b) in (
      record {
        sides = sides_narrow part.Fall d offer.fall (fall_entry d c P) (fall_numbers d c P) both.0;
        value = start_narrow d P v both.1;
      },
      rw (sym same) negative,
    )) in
    (onto, λ h. narrow_accepted cs start some few h.0 h.1)
