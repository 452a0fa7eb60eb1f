-- Lists with all signs changed.
use Rattle.std.proofs.Common.{◌≡◌, ℕ, zero, suc, ◌<◌, ◌≤◌, ◌&&◌, Bool, true, false, List, [], ◌∷◌, length, map, refl, sym, ap, ◌∙◌, arith, Some, if◌then◌else◌, nat_lt, int_lt, get_or, All}
use Rattle.std.proofs.Math.IntN.{ℤ, pos, negsuc, neg_ℤ}
use Rattle.std.proofs.lemmas.Bool.{and_parts}
use Rattle.std.proofs.lemmas.Bool.Decides.{nat_tests}
use Rattle.std.specs.Int.RustNames.{unsigned_abs}
use Rattle.std.proofs.lemmas.Int.{ints}
use Rattle.std.proofs.lemmas.List.{length-map, get_or-map}
use Rattle.dsv_forms.specs.Poly.{IsPoly, greatest_coefficient, most_coefficients}
use Rattle.dsv_tested.specs.Lead.{lead_size}
use Rattle.dsv_tested.specs.Tested.{are_even, halved_within, without_common_twos, with_positive_lead, first_over}
use Rattle.dsv_tested.proofs.Evens.{is_even, half, is_even-neg, half-neg, size-neg}
use Rattle.dsv_tested.proofs.CommonTwos.{halved_turn, halved_end}

abbrev IsSmall : ℤ → Type 0
IsSmall c = unsigned_abs c ≤ greatest_coefficient

are_even-neg : (cs : List ℤ) → are_even (map neg_ℤ cs) ≡ are_even cs
are_even-neg [] = refl
are_even-neg (c ∷ cs) = ap (λ b. b && are_even (map neg_ℤ cs)) (is_even-neg c) ∙ ap (λ b. is_even c && b) (are_even-neg cs)

halves-neg : (cs : List ℤ) → are_even cs ≡ true → map half (map neg_ℤ cs) ≡ map neg_ℤ (map half cs)
halves-neg [] e = refl
halves-neg (c ∷ cs) e =
    let parts = and_parts (is_even c) (are_even cs) e in
    let first = half-neg c parts.0 in
    let others = halves-neg cs parts.1 in cc

halved_case : (b : Bool) (n : ℕ) (cs : List ℤ) → are_even cs ≡ b → halved_within n (map neg_ℤ (map half cs)) ≡ map neg_ℤ (halved_within n (map half cs))
    → halved_within (suc n) (map neg_ℤ cs) ≡ map neg_ℤ (halved_within (suc n) cs)
halved_case true n cs e h =
    halved_turn n (map neg_ℤ cs) (are_even-neg cs ∙ e) ∙ ap (halved_within n) (halves-neg cs e) ∙ h ∙ sym (ap (map neg_ℤ) (halved_turn n cs e))
halved_case false n cs e h =
    halved_end (suc n) (map neg_ℤ cs) (are_even-neg cs ∙ e) ∙ sym (ap (map neg_ℤ) (halved_end (suc n) cs e))

halved-neg : (n : ℕ) (cs : List ℤ) → halved_within n (map neg_ℤ cs) ≡ map neg_ℤ (halved_within n cs)
halved-neg zero cs = refl
halved-neg (suc n) cs = halved_case (are_even cs) n cs refl (halved-neg n (map half cs))

abbrev leads_negative : List ℤ → Bool
leads_negative [] = false
leads_negative (c ∷ cs) = int_lt c (pos 0)

positive_by : (cs : List ℤ) → with_positive_lead cs ≡ (if leads_negative cs then map neg_ℤ cs else cs)
positive_by [] = refl
positive_by (c ∷ cs) = refl

half_negative : (c : ℤ) → int_lt (half c) (pos 0) ≡ int_lt c (pos 0)
half_negative (pos n) = grind (arith, nat_tests)
half_negative (negsuc n) = refl

halves_lead : (cs : List ℤ) → leads_negative (map half cs) ≡ leads_negative cs
halves_lead [] = refl
halves_lead (c ∷ cs) = half_negative c

halved_lead_case : (b : Bool) (n : ℕ) (cs : List ℤ) → are_even cs ≡ b → leads_negative (halved_within n (map half cs)) ≡ leads_negative (map half cs)
    → leads_negative (halved_within (suc n) cs) ≡ leads_negative cs
halved_lead_case true n cs e h = ap leads_negative (halved_turn n cs e) ∙ h ∙ halves_lead cs
halved_lead_case false n cs e h = ap leads_negative (halved_end (suc n) cs e)

halved_lead : (n : ℕ) (cs : List ℤ) → leads_negative (halved_within n cs) ≡ leads_negative cs
halved_lead zero cs = refl
halved_lead (suc n) cs = halved_lead_case (are_even cs) n cs refl (halved_lead n (map half cs))

reduced_lead : (cs : List ℤ) → leads_negative (without_common_twos cs) ≡ leads_negative cs
reduced_lead [] = refl
reduced_lead (c ∷ cs) = halved_lead (unsigned_abs c) (c ∷ cs)

-- powers of two may be taken out before the signs are changed
common_twos-neg : (cs : List ℤ) → without_common_twos (map neg_ℤ cs) ≡ map neg_ℤ (without_common_twos cs)
common_twos-neg [] = refl
common_twos-neg (c ∷ cs) = ap (λ n. halved_within n (map neg_ℤ (c ∷ cs))) (size-neg c) ∙ halved-neg (unsigned_abs c) (c ∷ cs)

first_over-neg : (k : ℕ) (cs : List ℤ) → first_over k (map neg_ℤ cs) ≡ first_over k cs
first_over-neg k [] = refl
first_over-neg k (c ∷ cs) =
    ap (λ n. if nat_lt greatest_coefficient n then Some k else first_over (suc k) (map neg_ℤ cs)) (size-neg c)
    ∙ ap (λ o. if nat_lt greatest_coefficient (unsigned_abs c) then Some k else o) (first_over-neg (suc k) cs)

abbrev signed : Bool → List ℤ → List ℤ
signed b cs = if b then map neg_ℤ cs else cs

common_twos-signed : (b : Bool) (cs : List ℤ) → without_common_twos (signed b cs) ≡ signed b (without_common_twos cs)
common_twos-signed true cs = common_twos-neg cs
common_twos-signed false cs = refl

pub common_twos-positive : (cs : List ℤ) → without_common_twos (with_positive_lead cs) ≡ with_positive_lead (without_common_twos cs)
common_twos-positive cs =
    ap without_common_twos (positive_by cs) ∙ common_twos-signed (leads_negative cs) cs
    ∙ ap (λ b. signed b (without_common_twos cs)) (sym (reduced_lead cs)) ∙ sym (positive_by (without_common_twos cs))

first_over-signed : (b : Bool) (cs : List ℤ) → first_over 0 (signed b cs) ≡ first_over 0 cs
first_over-signed true cs = first_over-neg 0 cs
first_over-signed false cs = refl

pub first_over-positive : (cs : List ℤ) → first_over 0 (with_positive_lead cs) ≡ first_over 0 cs
first_over-positive cs = ap (first_over 0) (positive_by cs) ∙ first_over-signed (leads_negative cs) cs

-- ---- a polynomial
small-neg : (cs : List ℤ) → All IsSmall cs → All IsSmall (map neg_ℤ cs)
small-neg cs all = λ k d h.
    let within : k < length cs = omega (arith, length-map cs neg_ℤ) in
    let same = ap unsigned_abs (get_or-map neg_ℤ cs k d d within) ∙ size-neg (get_or cs k d) in
    let s = all k d within in
    omega arith

poly_case : (b : Bool) (c : ℤ) (cs : List ℤ) → int_lt c (pos 0) ≡ b → 0 < unsigned_abs c → length (c ∷ cs) ≤ most_coefficients → All IsSmall (c ∷ cs) → IsPoly (signed b (c ∷ cs))
poly_case true c cs e h few all = record {
  some = omega arith;
  few = omega (arith, length-map cs neg_ℤ);
  first = omega (arith, ints);
  small = small-neg (c ∷ cs) all;
}
poly_case false c cs e h few all = record { some = omega arith; few = few; first = omega (arith, ints); small = all }

pub positive_poly : (cs : List ℤ) → 0 < lead_size cs → length cs ≤ most_coefficients → All IsSmall cs → IsPoly (with_positive_lead cs)
positive_poly [] h few all = absurd (omega arith)
positive_poly (c ∷ cs) h few all = poly_case (int_lt c (pos 0)) c cs refl h few all
