-- Which of the two the closed forms of orders 1 and 2 offer.
use Rattle.std.proofs.Common.{◌≡◌, Bool, true, false, int_lt, [], ◌∷◌, Some, None, refl, subst}
use Rattle.std.specs.Prelude.{if◌then◌else◌}
use Rattle.std.specs.Ordering.{int_eq}
use Rattle.std.proofs.Math.IntN.{ℤ, pos, neg_ℤ, ◌+ℤ◌, ◌-ℤ◌, ◌*ℤ◌}
use Rattle.dsv_forms.specs.declared.offers.FormOffer.{FormOffer}
use Rattle.dsv_forms.specs.declared.offers.FormOffer.TheVariants as offered
use Rattle.dsv_algebra.specs.Squares.{size}
use Rattle.dsv_closed_forms.specs.ClosedForm.{form_that_falls, form_that_never_rises, first_order, first_leads, fall_scale, second_rows, negated_rows, second_kept_away, second_that_falls, equal_ends, minus_square, second_leads, second_order, are_within, second_limit, closed_form_of, offers_fall}

either : (a : Bool) (x y : FormOffer) → offers_fall x ≡ false → offers_fall y ≡ false → offers_fall (if a then x else y) ≡ false
either true x y h k = h
either false x y h k = k

by_test : (b : Bool) (x y : FormOffer) → offers_fall x ≡ true → offers_fall y ≡ false → offers_fall (if b then x else y) ≡ b
by_test true x y h k = h
by_test false x y h k = k

order_one : (c0 c1 : ℤ) → offers_fall (first_order c0 c1) ≡ first_leads (c0 ∷ c1 ∷ [])
order_one c0 c1 =
    by_test (int_lt (size c1) c0) (offered.Falls (form_that_falls (c0 *ℤ c0 -ℤ c1 *ℤ c1))) (offered.KeptAway (form_that_never_rises (c1 *ℤ c1 -ℤ c0 *ℤ c0))) refl refl

pub first_choice : (c0 c1 : ℤ) (offer : FormOffer) → closed_form_of (c0 ∷ c1 ∷ []) ≡ Some offer → offers_fall offer ≡ first_leads (c0 ∷ c1 ∷ [])
first_choice c0 c1 offer h =
    let same : first_order c0 c1 ≡ offer = cc in
    subst (λ o. offers_fall o ≡ first_leads (c0 ∷ c1 ∷ [])) same (order_one c0 c1)

order_two : (c0 c1 c2 : ℤ) → offers_fall (second_order c0 c1 c2) ≡ second_leads c0 c1 c2
order_two c0 c1 c2 =
    let k = fall_scale c0 c1 c2 in
    let rows = second_rows c0 c1 c2 in
    let above = offered.KeptAway (second_kept_away c0 c1 c2 rows (c0 *ℤ c0 *ℤ k)) in
    let below = offered.KeptAway (second_kept_away c0 c1 c2 (negated_rows rows) (neg_ℤ (c0 *ℤ c0 *ℤ k))) in
    let equal = offered.KeptAway (equal_ends c0 c1 c2) in
    let one = offered.KeptAway (minus_square (c0 ∷ neg_ℤ c2 ∷ [])) in
    let other = offered.KeptAway (minus_square (c0 ∷ c2 ∷ [])) in
    let roots = if int_eq c1 (neg_ℤ (c0 +ℤ c2)) then one else other in
    let ends = if int_eq c2 c0 then equal else roots in
    let rest = if int_lt k (pos 0) then below else ends in
    by_test (second_leads c0 c1 c2) (offered.Falls (second_that_falls c0 c1 c2)) (if int_lt (pos 0) k then above else rest) refl
    (either (int_lt (pos 0) k) above rest refl (either (int_lt k (pos 0)) below ends refl (either (int_eq c2 c0) equal roots refl (either (int_eq c1 (neg_ℤ (c0 +ℤ c2))) one other refl refl))))

chosen : (b : Bool) (c0 c1 c2 : ℤ) (offer : FormOffer) → (if b then Some (second_order c0 c1 c2) else None) ≡ Some offer → offers_fall offer ≡ second_leads c0 c1 c2
chosen true c0 c1 c2 offer h = let same : second_order c0 c1 c2 ≡ offer = cc in subst (λ o. offers_fall o ≡ second_leads c0 c1 c2) same (order_two c0 c1 c2)
chosen false c0 c1 c2 offer h = absurd (cc)

pub second_choice : (c0 c1 c2 : ℤ) (offer : FormOffer) → closed_form_of (c0 ∷ c1 ∷ c2 ∷ []) ≡ Some offer → offers_fall offer ≡ second_leads c0 c1 c2
second_choice c0 c1 c2 offer h = chosen (are_within second_limit (c0 ∷ c1 ∷ c2 ∷ [])) c0 c1 c2 offer h
