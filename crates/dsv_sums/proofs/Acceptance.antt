-- Which offers of a form with squares by elimination are accepted.
use Rattle.std.proofs.Common.{◌≡◌, ◌≢◌, ℕ, ◌-◌, ◌<◌, ◌≤◌, Bool, true, false, not, List, [], ◌∷◌, ◌++◌, length, Option, Some, None, inl, inr, refl, sym, ap, ◌∙◌, arith}
use Rattle.std.proofs.Math.IntN.{ℤ, ◌*ℤ◌}
use Rattle.std.specs.Option.{option_and_then}
use Rattle.std.specs.Ordering.{int_eq}
use Rattle.std.proofs.lemmas.Bool.{cases_lt}
use Rattle.dsv_algebra.specs.Vectors.{Vector, Matrix, vector_of, matrix_of}
use Rattle.dsv_algebra.specs.Companion.{fall_entry}
use Rattle.dsv_forms.specs.declared.offers.Form.{Form}
use Rattle.dsv_forms.specs.declared.offers.Squares.{Squares}
use Rattle.dsv_forms.specs.declared.offers.Falls.{Falls}
use Rattle.dsv_forms.specs.declared.refusal.OfferPart.{OfferPart}
use Rattle.dsv_forms.specs.declared.refusal.OfferPart.TheVariants as part
use Rattle.dsv_forms.specs.declared.refusal.FormRefusal.{FormRefusal}
use Rattle.dsv_forms.specs.declared.refusal.FormRefusal.TheVariants as refusal
use Rattle.dsv_forms.specs.Refusals.{Test, first_of, any_wide, is_symmetric, bad_shape, right_side, side_numbers, place_tests, row_tests, side_tests, positive_weight_tests, triangle_tests, dominance_tests, definite_tests, form_tests, fall_numbers, falls_refusal}
use Rattle.dsv_forms.specs.Sums.{or_too_wide, IsFallOrWide}
use Rattle.dsv_forms.proofs.FallLemmas.{upper, turned}
use Rattle.dsv_forms.proofs.OfferLemmas.{falls_parts, definite_same, companion_at, fall_form-turned}
use Rattle.dsv_forms.proofs.Places.{or_else, neither, first_before, passes, neither_test, none_each, from_each}
use Rattle.dsv_forms.proofs.Shown.{definite_parts}
use Rattle.dsv_forms.proofs.SumLemmas.{unless, any_wide-append}
use Rattle.dsv_sums.specs.Elimination.{elimination}
use Rattle.dsv_sums.specs.Partial.{AreRefused}
use Rattle.dsv_sums.specs.SumForms.{where_accepted, offer_with}
use Rattle.dsv_sums.proofs.Agreement.{Agree, elimination_same}

-- ---- the parts of an accepted offer
pub record HasParts (d : ℕ) (c : Vector) (offer : Falls) : Type 0 where
  pub form : first_of (form_tests d offer.form) ≡ None
  pub positive : first_of (definite_tests part.Positive d offer.positive (matrix_of offer.form.rows) (λ i j. [])) ≡ None
  pub fall : first_of (definite_tests part.Fall d offer.fall (fall_entry d c (matrix_of offer.form.rows)) (fall_numbers d c (matrix_of offer.form.rows))) ≡ None

has_parts : (cs : List ℤ) (offer : Falls) → falls_refusal cs offer ≡ None → HasParts (length cs - 1) (vector_of cs) offer
has_parts cs offer h =
    let d = length cs - 1 in
    let c = vector_of cs in
    let P = matrix_of offer.form.rows in
    let first = first_of (form_tests d offer.form) in
    let second = first_of (definite_tests part.Positive d offer.positive P (λ i j. [])) in
    let third = first_of (definite_tests part.Fall d offer.fall (fall_entry d c P) (fall_numbers d c P)) in
    let a = neither first (or_else second third) (sym (falls_parts d c offer) ∙ h) in
    let b = neither second third a.1 in
    record { form = a.0; positive = b.0; fall = b.1 }

-- the numbers on the way to an entry of a form with accepted squares
place_narrow : (p : OfferPart) (n : ℕ) (s : Squares) (x : ℤ) (numbers : List ℤ) (i j : ℕ) → first_of (place_tests p n s x numbers i j) ≡ None → any_wide numbers ≡ false
place_narrow p n s x numbers i j h =
    let wide = any_wide (numbers ++ side_numbers n s x i j) in
    let rest : List Test = (not (int_eq (s.m *ℤ x) (right_side n s i j)), refusal.Identity p i j) ∷ [] in
    let both = neither (first_of ((wide, refusal.Wide p i j) ∷ [])) (first_of rest) (sym (first_before wide (refusal.Wide p i j) rest) ∙ h) in
    (neither_test (any_wide numbers) (any_wide (side_numbers n s x i j)) (sym (any_wide-append numbers (side_numbers n s x i j)) ∙ passes wide (refusal.Wide p i j) both.0)).0

numbers_narrow : (p : OfferPart) (d : ℕ) (s : Squares) (T : Matrix) (numbers : ℕ → ℕ → List ℤ) → first_of (definite_tests p d s T numbers) ≡ None
    → (i j : ℕ) → i ≤ j → j < d → any_wide (numbers i j) ≡ false
numbers_narrow p d s T numbers h i j q b =
    let w = first_of (positive_weight_tests p d s) in
    let t = first_of (triangle_tests p d s) in
    let sides = first_of (side_tests p d d s T numbers) in
    let m = first_of (dominance_tests p d s) in
    let shape = first_of ((bad_shape d s, refusal.Shape p) ∷ []) in
    let one = neither shape (or_else (or_else (or_else w t) sides) m) (sym (definite_parts p d s T numbers) ∙ h) in
    let two = neither (or_else (or_else w t) sides) m one.1 in
    let three = neither (or_else w t) sides two.0 in
    let row : first_of (row_tests p d d s T numbers i) ≡ None = none_each (row_tests p d d s T numbers) d three.1 i (omega arith) in
    place_narrow p d s (T i j) (numbers i j) i j (from_each (λ j. place_tests p d s (T i j) (numbers i j) i j) i d row j q b)

-- ---- the fall form that the code has, where no number is wide
known : (w : Bool) (t x : ℤ) → w ≡ false → x ≡ or_too_wide (unless w t) → x ≡ t
known true t x e h = cc
known false t x e h = h

fall_agrees : (d : ℕ) (c : Vector) (P F : Form) → is_symmetric d (matrix_of P.rows) ≡ true → IsFallOrWide d c P F
    → ((i j : ℕ) → i ≤ j → j < d → any_wide (fall_numbers d c (matrix_of P.rows) i j) ≡ false)
    → Agree d (matrix_of F.rows) (fall_entry d c (matrix_of P.rows))
fall_agrees d c P F form w narrow i j a b =
    let R = matrix_of F.rows in
    let Q = matrix_of P.rows in
    let T = fall_entry d c Q in
    let own : (i j : ℕ) → i ≤ j → j < d → R i j ≡ T i j = λ i j q b. known (any_wide (fall_numbers d c Q i j)) (T i j) (R i j) (narrow i j q b) (upper d c P F w i j q b) in
    elim (cases_lt j i) [
      | inl below ↦ turned d c P F w i j a b ∙ own j i (omega arith) a
          ∙ sym (companion_at d c Q j i b) ∙ fall_form-turned d c Q form j i b a ∙ companion_at d c Q i j a
      | inr from ↦ own i j from b
    ]

-- ---- offers that aren't accepted
refused_by : (offer : Falls) (o : Option FormRefusal) → o ≢ None → elim o as (λ o. Option Falls) [ None ↦ Some offer | Some r ↦ None ] ≡ None
refused_by offer None h = absurd (h refl)
refused_by offer (Some r) h = refl

refused_offer : (cs : List ℤ) (offer : Falls) → falls_refusal cs offer ≢ None → where_accepted cs offer ≡ None
refused_offer cs offer h = refused_by offer (falls_refusal cs offer) h

none_offered : (cs : List ℤ) (form : Form) (o q : Option Squares)
    → ((s t : Squares) → o ≡ Some s → q ≡ Some t → falls_refusal cs (record { form = form; positive = s; fall = t }) ≢ None)
    → None ≡ option_and_then (λ s. option_and_then (λ t. where_accepted cs (record { form = form; positive = s; fall = t })) q) o
none_offered cs form None q h = refl
none_offered cs form (Some s) None h = refl
none_offered cs form (Some s) (Some t) h = sym (refused_offer cs (record { form = form; positive = s; fall = t }) (h s t refl refl))

pub no_offer : (cs : List ℤ) (form : Form)
    → ((s t : Squares) → elimination (length cs - 1) (matrix_of form.rows) ≡ Some s → elimination (length cs - 1) (fall_entry (length cs - 1) (vector_of cs) (matrix_of form.rows)) ≡ Some t
    → falls_refusal cs (record { form = form; positive = s; fall = t }) ≢ None)
    → None ≡ offer_with cs form
no_offer cs form h =
    let d = length cs - 1 in
    let P = matrix_of form.rows in
    none_offered cs form (elimination d P) (elimination d (fall_entry d (vector_of cs) P)) h

pub positive_refused : (cs : List ℤ) (form : Form) → AreRefused (length cs - 1) (matrix_of form.rows) → None ≡ offer_with cs form
positive_refused cs form h =
    no_offer cs form (λ s t e f k. h s part.Positive e (has_parts cs (record { form = form; positive = s; fall = t }) k).positive)

-- where the offer with some squares is accepted, elimination gives the same for the code's fall form
fall_same : (cs : List ℤ) (form F : Form) (s t : Squares) → is_symmetric (length cs - 1) (matrix_of form.rows) ≡ true → IsFallOrWide (length cs - 1) (vector_of cs) form F
    → falls_refusal cs (record { form = form; positive = s; fall = t }) ≡ None
    → elimination (length cs - 1) (matrix_of F.rows) ≡ elimination (length cs - 1) (fall_entry (length cs - 1) (vector_of cs) (matrix_of form.rows))
fall_same cs form F s t sym w k =
    let d = length cs - 1 in
    let c = vector_of cs in
    let P = matrix_of form.rows in
    let o = has_parts cs (record { form = form; positive = s; fall = t }) k in
    elimination_same d (matrix_of F.rows) (fall_entry d c P) (fall_agrees d c form F sym w (numbers_narrow part.Fall d t (fall_entry d c P) (fall_numbers d c P) o.fall))

pub fall_refused : (cs : List ℤ) (form F : Form) → is_symmetric (length cs - 1) (matrix_of form.rows) ≡ true → IsFallOrWide (length cs - 1) (vector_of cs) form F
    → AreRefused (length cs - 1) (matrix_of F.rows) → None ≡ offer_with cs form
fall_refused cs form F symmetric w h =
    no_offer cs form (λ s t e f k.
    let d = length cs - 1 in
    let o = has_parts cs (record { form = form; positive = s; fall = t }) k in
    h t part.Fall (fall_same cs form F s t symmetric w k ∙ f) (definite_same part.Fall d t (vector_of cs) form F w ∙ o.fall))

same_offer : (s t u v : Squares) (form : Form) → ◌≡◌ {A = Option Squares} (Some s) (Some u) → ◌≡◌ {A = Option Squares} (Some t) (Some v)
    → ◌≡◌ {A = Falls} (record { form = form; positive = s; fall = t }) (record { form = form; positive = u; fall = v })
same_offer s t u v form e f =
    let a : s ≡ u = cc in
    let b : t ≡ v = cc in
    rw (a, b) refl

both_given : (cs : List ℤ) (form : Form) (s t : Squares) (o q : Option Squares) → o ≡ Some s → q ≡ Some t
    → where_accepted cs (record { form = form; positive = s; fall = t })
    ≡ option_and_then (λ s. option_and_then (λ t. where_accepted cs (record { form = form; positive = s; fall = t })) q) o
both_given cs form s t o q e f = rw (e, f) refl

refused_apart : (o : Option FormRefusal) (r : FormRefusal) → o ≡ Some r → o ≢ None
refused_apart o r h k = cc

offered_by : (cs : List ℤ) (form F : Form) (s t : Squares) (o : Option FormRefusal) → falls_refusal cs (record { form = form; positive = s; fall = t }) ≡ o
    → is_symmetric (length cs - 1) (matrix_of form.rows) ≡ true → IsFallOrWide (length cs - 1) (vector_of cs) form F
    → elimination (length cs - 1) (matrix_of form.rows) ≡ Some s → elimination (length cs - 1) (matrix_of F.rows) ≡ Some t
    → where_accepted cs (record { form = form; positive = s; fall = t }) ≡ offer_with cs form
offered_by cs form F s t None k symmetric w e f =
    let d = length cs - 1 in
    let P = matrix_of form.rows in
    both_given cs form s t (elimination d P) (elimination d (fall_entry d (vector_of cs) P)) e (sym (fall_same cs form F s t symmetric w k) ∙ f)
offered_by cs form F s t (Some r) k symmetric w e f =
    let out = refused_apart (falls_refusal cs (record { form = form; positive = s; fall = t })) r k in
    refused_offer cs (record { form = form; positive = s; fall = t }) out
    ∙ no_offer cs form (λ u v g h l. out (ap (falls_refusal cs) (same_offer s t u v form (sym e ∙ g) (sym f ∙ fall_same cs form F u v symmetric w l ∙ h)) ∙ l))

pub offered : (cs : List ℤ) (form F : Form) (s t : Squares) → is_symmetric (length cs - 1) (matrix_of form.rows) ≡ true → IsFallOrWide (length cs - 1) (vector_of cs) form F
    → elimination (length cs - 1) (matrix_of form.rows) ≡ Some s → elimination (length cs - 1) (matrix_of F.rows) ≡ Some t
    → where_accepted cs (record { form = form; positive = s; fall = t }) ≡ offer_with cs form
offered cs form F s t symmetric w e f = offered_by cs form F s t (falls_refusal cs (record { form = form; positive = s; fall = t })) refl symmetric w e f
