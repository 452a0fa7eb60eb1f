-- Polynomials of orders up to 2 with small coefficients have closed forms.
use Rattle.std.proofs.Common.{◌≡◌, ℕ, zero, suc, ◌≤◌, Bool, true, false, List, [], ◌∷◌, length, map, refl, sym, ap, ◌∙◌, subst, arith, if◌then◌else◌, nat_le, nat_lt, int_lt, Some, None, Result, Ok, Err}
use Rattle.std.proofs.Math.IntN.{ℤ, pos, negsuc, neg_ℤ}
use Rattle.std.proofs.lemmas.Bool.{and_parts}
use Rattle.std.proofs.lemmas.Bool.Decides.{nat_tests}
use Rattle.std.proofs.lemmas.List.{length-map}
use Rattle.std.specs.Ordering.{int_eq}
use Rattle.std.specs.Int.RustNames.{unsigned_abs}
use Rattle.dsv_names.specs.Realisations.{is_delta}
use Rattle.dsv_forms.specs.Poly.{greatest_coefficient}
use Rattle.dsv_forms.specs.declared.offers.FormOffer.{FormOffer}
use Rattle.dsv_closed_forms.specs.ClosedForm.{are_within, second_limit, first_order, second_order, closed_form_of}
use Rattle.dsv_closed_forms.specs.ClosedForm.{without_place}
use Rattle.dsv_forms.specs.declared.offers.FormOffer.TheVariants as offered
use Rattle.dsv_quantiser.specs.QuantisedView.{QuantisedView}
use Rattle.dsv_text.specs.Stages.{and_then}
use Rattle.dsv_delta.specs.declared.refusal.PolyWide.{PolyWide}
use Rattle.dsv_tested.specs.Tested.{z_list, tested_of, tested_list, polynomial_of, without_leading_zeros, with_positive_lead, without_common_twos, halved_within, are_even, first_over}
use Rattle.dsv_tested.specs.declared.side.Side.{Side}
use Rattle.dsv_tested.specs.declared.side.Side.TheVariants as side
use Rattle.dsv_tested.specs.declared.side.Tested.{Tested}
use Rattle.dsv_tested.specs.declared.side.Tested.TheVariants as tested
use Rattle.dsv_tested.proofs.Evens.{half, size-neg}
use Rattle.dsv_generator.specs.Small.{IsSmall, AreSmall, IsClosed, HasClosedForm, greatest_size}

-- at most three numbers, none of them greater than a word
abbrev Few : List ℤ → Type 0
Few cs = (length cs ≤ 3) × (are_within greatest_size cs ≡ true)

within_head : (c : ℤ) (cs : List ℤ) → are_within greatest_size (c ∷ cs) ≡ true → nat_le (unsigned_abs c) greatest_size ≡ true
within_head c cs h = (and_parts (nat_le (unsigned_abs c) greatest_size) (are_within greatest_size cs) h).0

within_tail : (c : ℤ) (cs : List ℤ) → are_within greatest_size (c ∷ cs) ≡ true → are_within greatest_size cs ≡ true
within_tail c cs h = (and_parts (nat_le (unsigned_abs c) greatest_size) (are_within greatest_size cs) h).1

within_both : (c : ℤ) (cs : List ℤ) → nat_le (unsigned_abs c) greatest_size ≡ true → are_within greatest_size cs ≡ true → are_within greatest_size (c ∷ cs) ≡ true
within_both c cs h k = rw (h, k) refl

-- ---- what is done to a list
stripped : (cs : List ℤ) → Few cs → Few (without_leading_zeros cs)
stripped [] few = few
stripped (c ∷ cs) few = by_test (int_eq c (pos 0)) (stripped cs (omega (arith, few.0), within_tail c cs few.1))
  where
    by_test : (b : Bool) → Few (without_leading_zeros cs) → Few (if b then without_leading_zeros cs else c ∷ cs)
    by_test true rest = rest
    by_test false rest = few

negated : (cs : List ℤ) → are_within greatest_size cs ≡ true → are_within greatest_size (map neg_ℤ cs) ≡ true
negated [] h = refl
negated (c ∷ cs) h =
    within_both (neg_ℤ c) (map neg_ℤ cs) (ap (λ n. nat_le n greatest_size) (size-neg c) ∙ within_head c cs h) (negated cs (within_tail c cs h))

with_sign : (c : ℤ) (cs : List ℤ) → Few (c ∷ cs) → Few (with_positive_lead (c ∷ cs))
with_sign c cs few = by_test (int_lt c (pos 0))
  where
    by_test : (b : Bool) → Few (if b then map neg_ℤ (c ∷ cs) else c ∷ cs)
    by_test true = (omega (arith, few.0, length-map (c ∷ cs) neg_ℤ), negated (c ∷ cs) few.1)
    by_test false = few

half_small : (c : ℤ) → nat_le (unsigned_abs c) greatest_size ≡ true → nat_le (unsigned_abs (half c)) greatest_size ≡ true
half_small (pos n) h = grind (arith, nat_tests)
half_small (negsuc n) h = grind (arith, nat_tests)

halves_small : (cs : List ℤ) → are_within greatest_size cs ≡ true → are_within greatest_size (map half cs) ≡ true
halves_small [] h = refl
halves_small (c ∷ cs) h = within_both (half c) (map half cs) (half_small c (within_head c cs h)) (halves_small cs (within_tail c cs h))

halved : (n : ℕ) (cs : List ℤ) → Few cs → Few (halved_within n cs)
halved zero cs few = few
halved (suc n) cs few = by_test (are_even cs) (halved n (map half cs) (omega (arith, few.0, length-map cs half), halves_small cs few.1))
  where
    by_test : (b : Bool) → Few (halved_within n (map half cs)) → Few (if b then halved_within n (map half cs) else cs)
    by_test true rest = rest
    by_test false rest = few

-- ---- the polynomial
none_over : (before : ℕ) (cs : List ℤ) → are_within greatest_size cs ≡ true → first_over before cs ≡ None
none_over before [] h = refl
none_over before (c ∷ cs) h =
    let narrow : nat_lt greatest_coefficient (unsigned_abs c) ≡ false = let s = within_head c cs h in grind (arith, nat_tests) in
    ap (λ b. if b then Some before else first_over (suc before) cs) narrow ∙ none_over (suc before) cs (within_tail c cs h)

within_limit : (cs : List ℤ) → are_within greatest_size cs ≡ true → are_within second_limit cs ≡ true
within_limit [] h = refl
within_limit (c ∷ cs) h =
    let small : nat_le (unsigned_abs c) second_limit ≡ true = let s = within_head c cs h in grind (arith, nat_tests) in
    let rest = within_limit cs (within_tail c cs h) in
    rw (small, rest) refl

closed : (cs : List ℤ) → Few cs → 1 ≤ length cs → (offer : FormOffer) × (closed_form_of cs ≡ Some offer)
closed [] few some = absurd (omega (arith, some))
closed (c0 ∷ []) few some = (offered.Falls without_place, refl)
closed (c0 ∷ c1 ∷ []) few some = (first_order c0 c1, refl)
closed (c0 ∷ c1 ∷ c2 ∷ []) few some =
    (second_order c0 c1 c2, ap (λ b. if b then Some (second_order c0 c1 c2) else None) (within_limit (c0 ∷ c1 ∷ c2 ∷ []) few.1))
closed (c0 ∷ c1 ∷ c2 ∷ c3 ∷ cs) few some = absurd (omega (arith, few.0))

polynomial : (cs : List ℤ) → Few cs → polynomial_of cs ≡ Ok (tested.Poly cs)
polynomial cs few =
    ap (λ o. elim o [
      | Some index ↦ Err (record { index = index })
      | None ↦ Ok (tested.Poly cs)
    ]) (none_over 0 cs few.1)

halved_length : (n : ℕ) (cs : List ℤ) → length (halved_within n cs) ≡ length cs
halved_length zero cs = refl
halved_length (suc n) cs = by_test (are_even cs) (halved_length n (map half cs) ∙ length-map cs half)
  where
    by_test : (b : Bool) → length (halved_within n (map half cs)) ≡ length cs → length (if b then halved_within n (map half cs) else cs) ≡ length cs
    by_test true rest = rest
    by_test false rest = refl

signed_length : (c : ℤ) (cs : List ℤ) → length (with_positive_lead (c ∷ cs)) ≡ length (c ∷ cs)
signed_length c cs = by_test (int_lt c (pos 0))
  where
    by_test : (b : Bool) → length (if b then map neg_ℤ (c ∷ cs) else c ∷ cs) ≡ length (c ∷ cs)
    by_test true = length-map (c ∷ cs) neg_ℤ
    by_test false = refl

twos_few : (cs : List ℤ) → Few cs → Few (without_common_twos cs)
twos_few [] few = few
twos_few (c ∷ cs) few = halved (unsigned_abs c) (c ∷ cs) few

twos_length : (cs : List ℤ) → length (without_common_twos cs) ≡ length cs
twos_length [] = refl
twos_length (c ∷ cs) = halved_length (unsigned_abs c) (c ∷ cs)

abbrev in_ok : Tested → Result Tested PolyWide
in_ok t = Ok t

abbrev Decided : Result Tested PolyWide → Type 0
Decided r = (found : Tested) × (r ≡ Ok found) × IsClosed found

of_list : (cs : List ℤ) → Few cs → Decided (tested_list cs)
of_list [] few = (tested.NoZeros, refl, tt)
of_list (c ∷ cs) few =
    let made = without_common_twos (with_positive_lead (c ∷ cs)) in
    let small = twos_few (with_positive_lead (c ∷ cs)) (with_sign c cs few) in
    let some = twos_length (with_positive_lead (c ∷ cs)) ∙ signed_length c cs in
    (tested.Poly made, polynomial made small, closed made small (omega (arith, some)))

of_words : (q : QuantisedView) (words : List ℤ) → is_delta q.realisation ≡ false → AreSmall words
    → Decided (and_then (z_list q words) (λ cs. tested_list (without_leading_zeros cs)))
of_words q words direct is =
    let plain : z_list q words ≡ Ok words = rw direct refl in
    subst (λ z. Decided (and_then z (λ cs. tested_list (without_leading_zeros cs)))) (sym plain)
    (of_list (without_leading_zeros words) (stripped words (omega (arith, is.places), is.within)))

has_closed_form : (q : QuantisedView) (s : Side) → IsSmall q → HasClosedForm q s
has_closed_form q side.Denominator is = of_words q q.a (ap is_delta is.realisation) is.denominator
has_closed_form q side.Numerator is = of_words q q.b (ap is_delta is.realisation) is.numerator

-- ---- what is found of a side
one_tested : (a b : Tested) → in_ok a ≡ in_ok b → a ≡ b
one_tested a b e = cc

pub closed_of : (q : QuantisedView) (s : Side) (poly : List ℤ) → IsSmall q → tested_of q s ≡ Ok (tested.Poly poly) → IsClosed (tested.Poly poly)
closed_of q s poly is e =
    let d = has_closed_form q s is in
    subst IsClosed (one_tested d.0 (tested.Poly poly) (sym d.1 ∙ e)) d.2

apart : (a : Tested) (wide : PolyWide) → in_ok a ≡ Err wide → ⊥
apart a wide e = absurd cc

pub never_wide : (q : QuantisedView) (s : Side) (wide : PolyWide) → IsSmall q → tested_of q s ≡ Err wide → ⊥
never_wide q s wide is e = let d = has_closed_form q s is in apart d.0 wide (sym d.1 ∙ e)
