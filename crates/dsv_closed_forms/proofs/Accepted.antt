-- The closed forms are accepted by their checks.
use Rattle.std.proofs.Common.{◌≡◌, ◌≢◌, ℕ, zero, suc, ◌^◌, ◌<◌, ◌≤◌, Bool, true, false, int_lt, List, [], ◌∷◌, inl, inr, length, Some, None, refl, ap, ◌∙◌, subst, arith}
use Rattle.std.specs.Prelude.{if◌then◌else◌, nat_le}
use Rattle.std.proofs.Math.IntN.{ℤ, pos, negsuc, neg_ℤ, ◌+ℤ◌, ◌-ℤ◌, ◌*ℤ◌, *ℤ_comm}
use Rattle.std.specs.Int.RustNames.{unsigned_abs}
use Rattle.std.specs.Ordering.{int_eq}
use Rattle.std.proofs.lemmas.Int.{ints}
use Rattle.std.proofs.lemmas.Bool.{and_parts, leb-true, both_ways}
use Rattle.std.proofs.lemmas.Bool.Decides.{Decides-int_eq}
use lib.Signed.{◌<ℤ◌}
use Rattle.dsv_algebra.specs.Vectors.{vector_of}
use Rattle.dsv_algebra.specs.Squares.{size}
use Rattle.dsv_algebra.proofs.Signs.{mul_positive, mul_negative}
use Rattle.dsv_algebra.proofs.Normaliser.{ring, env, var, num, plus, times, minus}
use Rattle.dsv_forms.specs.declared.offers.FormOffer.{FormOffer}
use Rattle.dsv_forms.specs.declared.offers.FormOffer.TheVariants as offered
use Rattle.dsv_forms.specs.Poly.{IsPoly}
use Rattle.dsv_forms.specs.Refusals.{kept_away_refusal}
use Rattle.dsv_forms.proofs.Passing.{Within}
use Rattle.dsv_closed_forms.specs.ClosedForm.{gap, fall_scale, value_from, quotient_from, is_root, root_form, minus_square, second_rows, negated_rows, second_kept_away, second_that_falls, equal_ends, second_leads, second_order, first_order, form_that_falls, form_that_never_rises, without_place, are_within, second_limit, root_limit, closed_form_of, IsAccepted}
use Rattle.dsv_closed_forms.specs.SmallCoefficients.{AreSmall}
use Rattle.dsv_closed_forms.proofs.FirstAccepted.{first_falls, first_kept_away}
use Rattle.dsv_closed_forms.proofs.RootAccepted.{root_accepted}
use Rattle.dsv_closed_forms.proofs.SecondFalls.{IsStablePair, second_falls}
use Rattle.dsv_closed_forms.proofs.SecondStarts.{Leads, sign, minus_sign, no_sign, plus_sign, positive_scale, negative_scale, scale_factors}
use Rattle.dsv_closed_forms.proofs.SecondAway.{away_above, away_below, equal_away}

-- ---- order 1

leads : (c0 c1 : ℤ) → pos 0 <ℤ c0 → int_lt (size c1) c0 ≡ true → unsigned_abs c1 < unsigned_abs c0
leads c0 c1 first h = grind (arith, ints)

follows : (c0 c1 : ℤ) → pos 0 <ℤ c0 → int_lt (size c1) c0 ≡ false → unsigned_abs c0 ≤ unsigned_abs c1
follows c0 c1 first h = grind (arith, ints)

first_by : (b : Bool) (c0 c1 : ℤ) → pos 0 <ℤ c0 → Within (2 ^ 44) c0 → Within (2 ^ 44) c1 → int_lt (size c1) c0 ≡ b
    → IsAccepted (c0 ∷ c1 ∷ []) (if b then offered.Falls (form_that_falls (c0 *ℤ c0 -ℤ c1 *ℤ c1)) else offered.KeptAway (form_that_never_rises (c1 *ℤ c1 -ℤ c0 *ℤ c0)))
first_by true c0 c1 p h k e = first_falls c0 c1 (leads c0 c1 p e) h
first_by false c0 c1 p h k e = first_kept_away c0 c1 (follows c0 c1 p e) k

-- ---- roots

is_zero : (z : ℤ) → int_eq z (pos 0) ≡ true → z ≡ pos 0
is_zero z h = (Decides-int_eq z (pos 0)).0 h

root_by : (a b : Bool) (c0 : ℤ) (cs : List ℤ) (offer : FormOffer) → is_root (pos 1) c0 cs ≡ a → is_root (negsuc 0) c0 cs ≡ b → pos 0 <ℤ c0 → 1 ≤ length cs → length cs ≤ 8
    → Within (2 ^ 28) c0 → ((i : ℕ) → Within (2 ^ 28) (vector_of cs i))
    → (if a then Some (offered.KeptAway (minus_square (quotient_from (pos 1) c0 cs))) else (if b then Some (offered.KeptAway (minus_square (quotient_from (negsuc 0) c0 cs))) else None)) ≡ Some offer
    → IsAccepted (c0 ∷ cs) offer
root_by true b c0 cs offer e f p some few head tail h =
    let same : offered.KeptAway (minus_square (quotient_from (pos 1) c0 cs)) ≡ offer = cc in
    subst (IsAccepted (c0 ∷ cs)) same (root_accepted (pos 1) c0 cs refl (omega arith) p some few head tail (is_zero (value_from (pos 1) c0 cs) e))
root_by false true c0 cs offer e f p some few head tail h =
    let same : offered.KeptAway (minus_square (quotient_from (negsuc 0) c0 cs)) ≡ offer = cc in
    subst (IsAccepted (c0 ∷ cs)) same (root_accepted (negsuc 0) c0 cs refl (omega arith) p some few head tail (is_zero (value_from (negsuc 0) c0 cs) f))
root_by false false c0 cs offer e f p some few head tail h = absurd (cc)

-- ---- order 2

second_small : (c0 c1 c2 : ℤ) → Within (2 ^ 23) c0 → Within (2 ^ 23) c1 → Within (2 ^ 23) c2 → AreSmall c0 c1 c2
second_small c0 c1 c2 a b c = record { first = a; second = b; third = c }

gap_factors : (c0 c1 c2 : ℤ) → gap c0 c1 c2 ≡ (c0 +ℤ c2 -ℤ c1) *ℤ (c0 +ℤ c2 +ℤ c1)
gap_factors c0 c1 c2 =
    ring (env (c0 ∷ c1 ∷ c2 ∷ [])) (plus (times (plus (var 0) (var 2)) (plus (var 0) (var 2))) (minus (times (var 1) (var 1))))
    (times (plus (plus (var 0) (var 2)) (minus (var 1))) (plus (plus (var 0) (var 2)) (var 1))) refl

less_by : (a b : ℤ) → int_lt a b ≡ true → a <ℤ b
less_by a b h = grind (arith, ints)

below_size : (z n : ℤ) → size z <ℤ n → pos 0 <ℤ (n -ℤ z)
below_size z n h = omega (arith, ints)

above_size : (z n : ℤ) → size z <ℤ n → pos 0 <ℤ (n +ℤ z)
above_size z n h = omega (arith, ints)

size_below : (z n : ℤ) → pos 0 <ℤ (n -ℤ z) → pos 0 <ℤ (n +ℤ z) → int_lt (size z) n ≡ true
size_below z n h k = grind (arith, ints)

stable_pair : (c0 c1 c2 : ℤ) → pos 0 <ℤ c0 → Leads c0 c1 c2 → IsStablePair c0 c1 c2
stable_pair c0 c1 c2 p h = record {
  first = p;
  sum = h.sum;
  difference = h.difference;
  gap_sign = rw (gap_factors c0 c1 c2) (mul_positive (c0 +ℤ c2 -ℤ c1) (c0 +ℤ c2 +ℤ c1) h.left h.right);
}

-- the tests of the definition say that it leads
leads_by : (c0 c1 c2 : ℤ) → second_leads c0 c1 c2 ≡ true → Leads c0 c1 c2
leads_by c0 c1 c2 h =
    let p = and_parts (int_lt (size c2) c0) (int_lt (size c1) (c0 +ℤ c2)) h in
    let a : size c2 <ℤ c0 = less_by (size c2) c0 p.0 in
    let b : size c1 <ℤ (c0 +ℤ c2) = less_by (size c1) (c0 +ℤ c2) p.1 in
    record { difference = below_size c2 c0 a; sum = above_size c2 c0 a; left = below_size c1 (c0 +ℤ c2) b; right = above_size c1 (c0 +ℤ c2) b }

-- and where it leads, the tests say so
leads_test : (c0 c1 c2 : ℤ) → Leads c0 c1 c2 → second_leads c0 c1 c2 ≡ true
leads_test c0 c1 c2 h = rw (size_below c2 c0 h.difference h.sum, size_below c1 (c0 +ℤ c2) h.left h.right) refl

-- the last two forms: the gap is 0
ends_apart : (c0 c2 : ℤ) → int_eq c2 c0 ≡ false → (c0 -ℤ c2) ≢ pos 0
ends_apart c0 c2 h e =
    let same : c2 ≡ c0 = omega (arith, ints) in
    both_ways (int_eq c2 c0) h ((Decides-int_eq c2 c0).1 same)

turned : (a b : ℤ) → neg_ℤ a *ℤ b ≡ neg_ℤ (a *ℤ b)
turned a b = ring (env (a ∷ b ∷ [])) (times (minus (var 0)) (var 1)) (minus (times (var 0) (var 1))) refl

by_sign : (a b : ℤ) → pos 0 <ℤ a → a *ℤ b ≡ pos 0 → b ≡ pos 0
by_sign a b p h = elim (sign b) [
  | no_sign z ↦ z
  | plus_sign q ↦ let m = mul_positive a b p q in absurd (omega (arith, ints))
  | minus_sign q ↦ let m = mul_negative a b p q in absurd (omega (arith, ints))
]

factor_none : (a b : ℤ) → a *ℤ b ≡ pos 0 → a ≢ pos 0 → b ≡ pos 0
factor_none a b h n = elim (sign a) [
  | no_sign z ↦ absurd (n z)
  | plus_sign p ↦ by_sign a b p h
  | minus_sign p ↦ by_sign (neg_ℤ a) b (omega (arith, ints)) (turned a b ∙ ap neg_ℤ h)
]

quotient_one : (c0 c1 c2 : ℤ) → c1 ≡ neg_ℤ (c0 +ℤ c2) → quotient_from (pos 1) c0 (c1 ∷ c2 ∷ []) ≡ c0 ∷ neg_ℤ c2 ∷ []
quotient_one c0 c1 c2 h =
    let e : c1 +ℤ pos 1 *ℤ c0 ≡ neg_ℤ c2 = rw h (ring (env (c0 ∷ c2 ∷ [])) (plus (minus (plus (var 0) (var 1))) (times (num (pos 1)) (var 0))) (minus (var 1)) refl) in
    ap (λ z. c0 ∷ z ∷ []) e

value_one : (c0 c1 c2 : ℤ) → c1 ≡ neg_ℤ (c0 +ℤ c2) → value_from (pos 1) c0 (c1 ∷ c2 ∷ []) ≡ pos 0
value_one c0 c1 c2 h = rw h (ring (env (c0 ∷ c2 ∷ [])) (plus (var 1) (times (num (pos 1)) (plus (minus (plus (var 0) (var 1))) (times (num (pos 1)) (var 0))))) (num (pos 0)) refl)

quotient_other : (c0 c1 c2 : ℤ) → c1 ≡ c0 +ℤ c2 → quotient_from (negsuc 0) c0 (c1 ∷ c2 ∷ []) ≡ c0 ∷ c2 ∷ []
quotient_other c0 c1 c2 h =
    let e : c1 +ℤ negsuc 0 *ℤ c0 ≡ c2 = rw h (ring (env (c0 ∷ c2 ∷ [])) (plus (plus (var 0) (var 1)) (times (num (negsuc 0)) (var 0))) (var 1) refl) in
    ap (λ z. c0 ∷ z ∷ []) e

value_other : (c0 c1 c2 : ℤ) → c1 ≡ c0 +ℤ c2 → value_from (negsuc 0) c0 (c1 ∷ c2 ∷ []) ≡ pos 0
value_other c0 c1 c2 h = rw h (ring (env (c0 ∷ c2 ∷ [])) (plus (var 1) (times (num (negsuc 0)) (plus (plus (var 0) (var 1)) (times (num (negsuc 0)) (var 0))))) (num (pos 0)) refl)

wider : (z : ℤ) → Within (2 ^ 23) z → Within (2 ^ 28) z
wider z h = omega (arith, h)

pair_within : (c1 c2 : ℤ) → Within (2 ^ 23) c1 → Within (2 ^ 23) c2 → (i : ℕ) → Within (2 ^ 28) (vector_of (c1 ∷ c2 ∷ []) i)
pair_within c1 c2 h k zero = wider c1 h
pair_within c1 c2 h k (suc zero) = wider c2 k
pair_within c1 c2 h k (suc (suc i)) = omega arith

at_one : (c0 c1 c2 : ℤ) → AreSmall c0 c1 c2 → pos 0 <ℤ c0 → c1 ≡ neg_ℤ (c0 +ℤ c2) → kept_away_refusal (c0 ∷ c1 ∷ c2 ∷ []) (minus_square (c0 ∷ neg_ℤ c2 ∷ [])) ≡ None
at_one c0 c1 c2 small p h =
    subst (λ q. kept_away_refusal (c0 ∷ c1 ∷ c2 ∷ []) (minus_square q) ≡ None) (quotient_one c0 c1 c2 h)
    (root_accepted (pos 1) c0 (c1 ∷ c2 ∷ []) refl (omega arith) p (omega arith) (omega arith) (wider c0 small.first) (pair_within c1 c2 small.second small.third) (value_one c0 c1 c2 h))

at_other : (c0 c1 c2 : ℤ) → AreSmall c0 c1 c2 → pos 0 <ℤ c0 → c1 ≡ c0 +ℤ c2 → kept_away_refusal (c0 ∷ c1 ∷ c2 ∷ []) (minus_square (c0 ∷ c2 ∷ [])) ≡ None
at_other c0 c1 c2 small p h =
    subst (λ q. kept_away_refusal (c0 ∷ c1 ∷ c2 ∷ []) (minus_square q) ≡ None) (quotient_other c0 c1 c2 h)
    (root_accepted (negsuc 0) c0 (c1 ∷ c2 ∷ []) refl (omega arith) p (omega arith) (omega arith) (wider c0 small.first) (pair_within c1 c2 small.second small.third) (value_other c0 c1 c2 h))

equal_at : (c0 c1 c2 : ℤ) → AreSmall c0 c1 c2 → pos 0 <ℤ c0 → c2 ≡ c0 → kept_away_refusal (c0 ∷ c1 ∷ c2 ∷ []) (equal_ends c0 c1 c2) ≡ None
equal_at c0 c1 c2 small p e = rw e (equal_away c0 c1 (record { first = small.first; second = small.second; third = small.first }) p)

-- with a scale of 0
at_none : (a b : Bool) (c0 c1 c2 : ℤ) → AreSmall c0 c1 c2 → pos 0 <ℤ c0 → fall_scale c0 c1 c2 ≡ pos 0 → int_eq c2 c0 ≡ a → int_eq c1 (neg_ℤ (c0 +ℤ c2)) ≡ b
    → IsAccepted (c0 ∷ c1 ∷ c2 ∷ []) (if a then offered.KeptAway (equal_ends c0 c1 c2) else (if b then offered.KeptAway (minus_square (c0 ∷ neg_ℤ c2 ∷ [])) else offered.KeptAway (minus_square (c0 ∷ c2 ∷ []))))
at_none true b c0 c1 c2 small p z e f = equal_at c0 c1 c2 small p ((Decides-int_eq c2 c0).0 e)
at_none false true c0 c1 c2 small p z e f = at_one c0 c1 c2 small p ((Decides-int_eq c1 (neg_ℤ (c0 +ℤ c2))).0 f)
at_none false false c0 c1 c2 small p z e f =
    let product = rw (scale_factors c0 c1 c2) at z in
    let both : (c0 +ℤ c2 -ℤ c1) *ℤ (c0 +ℤ c2 +ℤ c1) ≡ pos 0 = factor_none (c0 -ℤ c2) ((c0 +ℤ c2 -ℤ c1) *ℤ (c0 +ℤ c2 +ℤ c1)) product (ends_apart c0 c2 e) in
    let other : (c0 +ℤ c2 +ℤ c1) ≢ pos 0 = λ n. both_ways (int_eq c1 (neg_ℤ (c0 +ℤ c2))) f ((Decides-int_eq c1 (neg_ℤ (c0 +ℤ c2))).1 (omega (arith, ints))) in
    let one : (c0 +ℤ c2 -ℤ c1) ≡ pos 0 = factor_none (c0 +ℤ c2 +ℤ c1) (c0 +ℤ c2 -ℤ c1) (*ℤ_comm (c0 +ℤ c2 +ℤ c1) (c0 +ℤ c2 -ℤ c1) ∙ both) other in
    at_other c0 c1 c2 small p (omega (arith, ints))

not_both : {A : Type 0} (b : Bool) → b ≡ false → b ≡ true → A
not_both b h k = absurd (both_ways b h k)

-- the sign of the scale, by its tests
abbrev by_scale : Bool → Bool → ℤ → ℤ → ℤ → FormOffer
by_scale a b c0 c1 c2 =
    if a then offered.KeptAway (second_kept_away c0 c1 c2 (second_rows c0 c1 c2) (c0 *ℤ c0 *ℤ fall_scale c0 c1 c2))
    else (if b then offered.KeptAway (second_kept_away c0 c1 c2 (negated_rows (second_rows c0 c1 c2)) (neg_ℤ (c0 *ℤ c0 *ℤ fall_scale c0 c1 c2)))
    else (if int_eq c2 c0 then offered.KeptAway (equal_ends c0 c1 c2) else (if int_eq c1 (neg_ℤ (c0 +ℤ c2)) then offered.KeptAway (minus_square (c0 ∷ neg_ℤ c2 ∷ [])) else offered.KeptAway (minus_square (c0 ∷ c2 ∷ [])))))

not_less : (z : ℤ) → int_lt (pos 0) z ≡ false → int_lt z (pos 0) ≡ false → z ≡ pos 0
not_less z h k = grind (arith, ints)

unstable : (a b : Bool) (c0 c1 c2 : ℤ) → AreSmall c0 c1 c2 → pos 0 <ℤ c0 → second_leads c0 c1 c2 ≡ false → int_lt (pos 0) (fall_scale c0 c1 c2) ≡ a → int_lt (fall_scale c0 c1 c2) (pos 0) ≡ b
    → IsAccepted (c0 ∷ c1 ∷ c2 ∷ []) (by_scale a b c0 c1 c2)
unstable true b c0 c1 c2 small p h e f =
    let k = less_by (pos 0) (fall_scale c0 c1 c2) e in
    elim (positive_scale c0 c1 c2 p k) [
      | inl l ↦ not_both (second_leads c0 c1 c2) h (leads_test c0 c1 c2 l)
      | inr n ↦ away_above c0 c1 c2 small p k n
    ]
unstable false true c0 c1 c2 small p h e f =
    let k = less_by (fall_scale c0 c1 c2) (pos 0) f in
    away_below c0 c1 c2 small p k (negative_scale c0 c1 c2 p k)
unstable false false c0 c1 c2 small p h e f =
    at_none (int_eq c2 c0) (int_eq c1 (neg_ℤ (c0 +ℤ c2))) c0 c1 c2 small p (not_less (fall_scale c0 c1 c2) e f) refl refl

second_by : (b : Bool) (c0 c1 c2 : ℤ) → AreSmall c0 c1 c2 → pos 0 <ℤ c0 → second_leads c0 c1 c2 ≡ b
    → IsAccepted (c0 ∷ c1 ∷ c2 ∷ []) (if b then offered.Falls (second_that_falls c0 c1 c2) else by_scale (int_lt (pos 0) (fall_scale c0 c1 c2)) (int_lt (fall_scale c0 c1 c2) (pos 0)) c0 c1 c2)
second_by true c0 c1 c2 small p h = second_falls c0 c1 c2 small (stable_pair c0 c1 c2 p (leads_by c0 c1 c2 h))
second_by false c0 c1 c2 small p h = unstable (int_lt (pos 0) (fall_scale c0 c1 c2)) (int_lt (fall_scale c0 c1 c2) (pos 0)) c0 c1 c2 small p h refl refl

-- ---- all orders

all_within : (n : ℕ) (cs : List ℤ) → are_within n cs ≡ true → (i : ℕ) → Within n (vector_of cs i)
all_within n [] h i = omega arith
all_within n (c ∷ cs) h zero = leb-true (unsigned_abs c) n (and_parts (nat_le (unsigned_abs c) n) (are_within n cs) h).0
all_within n (c ∷ cs) h (suc i) = all_within n cs (and_parts (nat_le (unsigned_abs c) n) (are_within n cs) h).1 i

second_chosen : (b : Bool) (c0 c1 c2 : ℤ) (offer : FormOffer) → pos 0 <ℤ c0 → are_within second_limit (c0 ∷ c1 ∷ c2 ∷ []) ≡ b
    → (if b then Some (second_order c0 c1 c2) else None) ≡ Some offer → IsAccepted (c0 ∷ c1 ∷ c2 ∷ []) offer
second_chosen true c0 c1 c2 offer p e h =
    let same : second_order c0 c1 c2 ≡ offer = cc in
    let w = all_within second_limit (c0 ∷ c1 ∷ c2 ∷ []) e in
    subst (IsAccepted (c0 ∷ c1 ∷ c2 ∷ [])) same (second_by (second_leads c0 c1 c2) c0 c1 c2 (second_small c0 c1 c2 (w 0) (w 1) (w 2)) p refl)
second_chosen false c0 c1 c2 offer p e h = absurd (cc)

root_chosen : (b : Bool) (c0 : ℤ) (cs : List ℤ) (offer : FormOffer) → pos 0 <ℤ c0 → 1 ≤ length cs → length cs ≤ 8 → are_within root_limit (c0 ∷ cs) ≡ b
    → (if b then root_form c0 cs else None) ≡ Some offer → IsAccepted (c0 ∷ cs) offer
root_chosen true c0 cs offer p some few e h =
    let w = all_within root_limit (c0 ∷ cs) e in
    root_by (is_root (pos 1) c0 cs) (is_root (negsuc 0) c0 cs) c0 cs offer refl refl p some few (w 0) (λ i. w (suc i)) h
root_chosen false c0 cs offer p some few e h = absurd (cc)

pub closed_form_accepted : (cs : List ℤ) (offer : FormOffer) → IsPoly cs → closed_form_of cs ≡ Some offer → IsAccepted cs offer
closed_form_accepted [] offer poly h = absurd (omega (arith, poly.some))
closed_form_accepted (c0 ∷ []) offer poly h = let same : offered.Falls without_place ≡ offer = cc in subst (IsAccepted (c0 ∷ [])) same refl
closed_form_accepted (c0 ∷ c1 ∷ []) offer poly h =
    let same : first_order c0 c1 ≡ offer = cc in
    subst (IsAccepted (c0 ∷ c1 ∷ [])) same (first_by (int_lt (size c1) c0) c0 c1 poly.first (poly.small 0 (pos 0) (omega arith)) (poly.small 1 (pos 0) (omega arith)) refl)
closed_form_accepted (c0 ∷ c1 ∷ c2 ∷ []) offer poly h = second_chosen (are_within second_limit (c0 ∷ c1 ∷ c2 ∷ [])) c0 c1 c2 offer poly.first refl h
closed_form_accepted (c0 ∷ c1 ∷ c2 ∷ c3 ∷ cs) offer poly h =
    root_chosen (are_within root_limit (c0 ∷ c1 ∷ c2 ∷ c3 ∷ cs)) c0 (c1 ∷ c2 ∷ c3 ∷ cs) offer poly.first (omega arith) (omega (arith, poly.few)) refl h
