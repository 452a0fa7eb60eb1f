-- Of an offer of a form that falls along the states the check reads the numbers of its places alone, and where it is accepted they are small.
use Rattle.std.proofs.Common.{◌≡◌, ◌∙◌, sym, ap, refl, ℕ, ◌<◌, ◌≤◌, true, not, ◌==◌, List, [], ◌∷◌, ◌++◌, map, None, arith}
use Rattle.std.proofs.Math.IntN.{ℤ, pos, neg_ℤ, ◌*ℤ◌}
use Rattle.std.specs.List.{flat_map}
use Rattle.dsv_algebra.specs.Companion.{total_from}
use Rattle.dsv_algebra.specs.Vectors.{Matrix, matrix_of}
use Rattle.dsv_forms.specs.OfferLaws.{IsNarrow}
use Rattle.dsv_forms.specs.Padded.{offer_alone}
use Rattle.dsv_forms.specs.Poly.{greatest_order}
use Rattle.dsv_forms.specs.Refusals.{first_of, places, any_wide, partial_sums, is_symmetric, bad_form, form_tests, definite_tests}
use Rattle.dsv_forms.specs.declared.offers.Falls.{Falls}
use Rattle.dsv_forms.specs.declared.refusal.OfferPart.TheVariants as part
use Rattle.dsv_forms.specs.declared.refusal.FormRefusal.TheVariants as refusal
use Rattle.dsv_forms.proofs.Alike.{AreAlike, AreAlikeOffers, definite_alike, bad_form_alike, placed, offer_alone_alike}
use Rattle.dsv_forms.proofs.OfferLemmas.{by_shape}
use Rattle.dsv_forms.proofs.Places.{or_else, neither, neither_test, not_false, passes, map_same, flat_same, first_same}
use Rattle.dsv_forms.proofs.Shown.{same_count}
use Rattle.dsv_forms.proofs.SmallOffers.{parts_narrow}
use Rattle.dsv_state_space.specs.StateForms.{one_of, loss_terms, loss_entry, loss_numbers, loss_row_tests, loss_tests, state_falls_tests, state_falls_refusal}
use Rattle.dsv_state_space.specs.StateView.{StateView, states}
use Rattle.dsv_state_space.proofs.LossLemmas.{early_parts}

-- ---- what passes in an accepted offer
record StatePass (d : ℕ) (q : ℤ) (A : Matrix) (offer : Falls) : Type 0 where
  places : offer.form.d ≡ d
  symmetric : is_symmetric d (matrix_of offer.form.rows) ≡ true
  positive : first_of (definite_tests part.Positive d offer.positive (matrix_of offer.form.rows) (λ i j. [])) ≡ None
  fall : first_of (definite_tests part.Fall d offer.fall (loss_entry d q A (matrix_of offer.form.rows)) (λ i j. [])) ≡ None

state_passes : (d : ℕ) (q : ℤ) (A : Matrix) (offer : Falls) → first_of (state_falls_tests d q A offer) ≡ None → StatePass d q A offer
state_passes d q A offer h =
    let P = matrix_of offer.form.rows in
    let positive = first_of (definite_tests part.Positive d offer.positive P (λ i j. [])) in
    let loss = first_of (loss_tests d q A P) in
    let fall = first_of (definite_tests part.Fall d offer.fall (loss_entry d q A P) (λ i j. [])) in
    let a = neither (first_of (form_tests d offer.form)) (or_else positive (or_else loss fall)) (sym (early_parts d q A offer) ∙ h) in
    let b = neither positive (or_else loss fall) a.1 in
    let shape = neither_test (not (offer.form.d == d)) (not (is_symmetric d P)) (passes (bad_form d offer.form) (refusal.Shape part.Form) a.0) in
    record {
      places = same_count offer.form.d d (not_false (offer.form.d == d) shape.0);
      symmetric = not_false (is_symmetric d P) shape.1;
      positive = b.0;
      fall = (neither loss fall b.1).1;
    }

pub accepted_states_narrow : (s : StateView) (offer : Falls) → state_falls_refusal s offer ≡ None → IsNarrow offer
accepted_states_narrow s offer h =
    let o = state_passes (states s) (one_of s) (matrix_of s.a) offer h in
    parts_narrow (states s) offer (loss_entry (states s) (one_of s) (matrix_of s.a) (matrix_of offer.form.rows)) (λ i j. []) o.places o.symmetric o.positive o.fall

-- its form has a place for each state
pub accepted_counted : (s : StateView) (offer : Falls) → state_falls_refusal s offer ≡ None → offer.form.d ≡ states s
accepted_counted s offer h = (state_passes (states s) (one_of s) (matrix_of s.a) offer h).places

-- ---- what a form loses
terms_alike : (d : ℕ) (q : ℤ) (A P Q : Matrix) (i j : ℕ) → AreAlike d d P Q → i < d → j < d → loss_terms d q A P i j ≡ loss_terms d q A Q i j
terms_alike d q A P Q i j a h k =
    let row : (m : ℕ) → m < d → map (λ l. (neg_ℤ (A m i) *ℤ A l j, P m l)) (places d) ≡ map (λ l. (neg_ℤ (A m i) *ℤ A l j, Q m l)) (places d) =
    λ m p. map_same (λ l. (neg_ℤ (A m i) *ℤ A l j, P m l)) (λ l. (neg_ℤ (A m i) *ℤ A l j, Q m l)) d (λ l r. ap (λ z. (neg_ℤ (A m i) *ℤ A l j, z)) (a m l p r)) in
    let later = flat_same (λ m. map (λ l. (neg_ℤ (A m i) *ℤ A l j, P m l)) (places d)) (λ m. map (λ l. (neg_ℤ (A m i) *ℤ A l j, Q m l)) (places d)) d row in
    ap (λ z. (q *ℤ q, z) ∷ flat_map (λ m. map (λ l. (neg_ℤ (A m i) *ℤ A l j, P m l)) (places d)) (places d)) (a i j h k)
    ∙ ap (λ ts. (q *ℤ q, Q i j) ∷ ts) later

entry_alike : (d : ℕ) (q : ℤ) (A P Q : Matrix) (i j : ℕ) → AreAlike d d P Q → i < d → j < d → loss_entry d q A P i j ≡ loss_entry d q A Q i j
entry_alike d q A P Q i j a h k = ap (total_from (pos 0)) (terms_alike d q A P Q i j a h k)

numbers_alike : (d : ℕ) (q : ℤ) (A P Q : Matrix) (i j : ℕ) → AreAlike d d P Q → i < d → j < d → loss_numbers d q A P i j ≡ loss_numbers d q A Q i j
numbers_alike d q A P Q i j a h k =
    ap (λ (terms : List (ℤ × ℤ)). map (λ t. t.0) terms ++ map (λ t. t.0 *ℤ t.1) terms ++ partial_sums (pos 0) (map (λ t. t.0 *ℤ t.1) terms)) (terms_alike d q A P Q i j a h k)

loss_alike : (d : ℕ) (q : ℤ) (A P Q : Matrix) → AreAlike d d P Q → first_of (loss_tests d q A P) ≡ first_of (loss_tests d q A Q)
loss_alike d q A P Q a =
    first_same (loss_row_tests d q A P) (loss_row_tests d q A Q) d
    (λ i h. ap first_of (map_same (λ j. (any_wide (loss_numbers d q A P i j), refusal.Wide part.Fall i j)) (λ j. (any_wide (loss_numbers d q A Q i j), refusal.Wide part.Fall i j)) d
    (λ j k. ap (λ ns. (any_wide ns, refusal.Wide part.Fall i j)) (numbers_alike d q A P Q i j a h k))))

-- ---- the offer with its places alone
tests_alike : (d : ℕ) (q : ℤ) (A : Matrix) (f g : Falls) → f.form.d ≡ g.form.d → (f.form.d ≡ d → AreAlikeOffers d f g) → first_of (state_falls_tests d q A f) ≡ first_of (state_falls_tests d q A g)
tests_alike d q A f g e a =
    let P = matrix_of f.form.rows in
    let Q = matrix_of g.form.rows in
    let positive = first_of (definite_tests part.Positive d f.positive P (λ i j. [])) in
    let loss = first_of (loss_tests d q A P) in
    let fall = first_of (definite_tests part.Fall d f.fall (loss_entry d q A P) (λ i j. [])) in
    let positive_too = first_of (definite_tests part.Positive d g.positive Q (λ i j. [])) in
    let loss_too = first_of (loss_tests d q A Q) in
    let fall_too = first_of (definite_tests part.Fall d g.fall (loss_entry d q A Q) (λ i j. [])) in
    early_parts d q A f
    ∙ by_shape (bad_form d f.form) (refusal.Shape part.Form) (or_else positive (or_else loss fall)) (or_else positive_too (or_else loss_too fall_too))
    (λ h. let o = a (placed d f.form h) in
    rw (
      definite_alike part.Positive d f.positive g.positive P Q (λ i j. []) (λ i j. []) o.positive o.form (λ i j k l. refl),
      loss_alike d q A P Q o.form,
      definite_alike part.Fall d f.fall g.fall (loss_entry d q A P) (loss_entry d q A Q) (λ i j. []) (λ i j. []) o.fall (λ i j k l. entry_alike d q A P Q i j o.form k l) (λ i j k l. refl),
    ) refl)
    ∙ ap (λ b. or_else (first_of ((b, refusal.Shape part.Form) ∷ [])) (or_else positive_too (or_else loss_too fall_too))) (bad_form_alike d f.form g.form e (λ h. (a h).form))
    ∙ sym (early_parts d q A g)

pub accepted_states_alone : (s : StateView) (offer : Falls) → offer.form.d ≤ greatest_order → state_falls_refusal s offer ≡ None → state_falls_refusal s (offer_alone offer) ≡ None
accepted_states_alone s offer few h =
    let same = accepted_counted s offer h in
    tests_alike (states s) (one_of s) (matrix_of s.a) (offer_alone offer) offer refl (λ e. offer_alone_alike (states s) offer e (omega (arith, same, few))) ∙ h
