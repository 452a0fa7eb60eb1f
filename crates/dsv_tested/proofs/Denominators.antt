-- A denominator has a polynomial.
use Rattle.std.proofs.Common.{◌≡◌, ◌≢◌, ℕ, zero, suc, ◌-◌, ◌*◌, ◌^◌, ◌<◌, ◌≤◌, Bool, true, false, List, [], ◌∷◌, length, map, get_or, refl, sym, ap, ◌∙◌, arith, Option, Some, None, Result, Ok, Err, MatchResult, IfOk}
use Rattle.std.proofs.Math.IntN.{ℤ, pos, ◌+ℤ◌, ◌*ℤ◌}
use Rattle.std.proofs.lemmas.Int.{ints}
use Rattle.std.proofs.lemmas.Nat.{pow_pos, mul-le}
use Rattle.std.specs.Int.RustNames.{unsigned_abs}
use Rattle.std.specs.List.{range_with_len}
use Rattle.std.specs.Ordering.{int_eq}
use lib.Signed.{◌<ℤ◌, ◌≤ℤ◌}
use Rattle.dsv_text.specs.Stages.{and_then}
use Rattle.dsv_algebra.specs.Vectors.{Vector, vector_of}
use Rattle.dsv_algebra.proofs.Normaliser.{ring, env, var, num, plus, times}
use Rattle.dsv_algebra.proofs.Signs.{mul_positive}
use Rattle.dsv_names.specs.Realisations.{is_delta}
use Rattle.dsv_quantiser.specs.QuantisedView.{QuantisedView, IsQuantisedView}
use Rattle.dsv_delta.specs.declared.refusal.PolyWide.{PolyWide}
use Rattle.dsv_delta.specs.ZCoefficients.{Dyadic, dyadic, scaled, first_wide, z_coefficient, expansion}
use Rattle.dsv_delta.proofs.Scaling.{power_positive, dyadic_positive}
use Rattle.dsv_delta.proofs.Table.{choose_none}
use Rattle.dsv_tested.specs.declared.side.Side.{Side}
use Rattle.dsv_tested.specs.declared.side.Side.TheVariants as side
use Rattle.dsv_tested.specs.declared.side.Tested.{Tested}
use Rattle.dsv_tested.specs.declared.side.Tested.TheVariants as tested
use Rattle.dsv_tested.specs.Tested.{z_list, without_leading_zeros, without_common_twos, with_positive_lead, first_over, polynomial_of, tested_list, tested_of}

-- ---- a list that begins with a positive number
abbrev no_zeros : Result Tested PolyWide
no_zeros = Ok tested.NoZeros

never_none : (o : Option ℕ) (cs : List ℤ) → first_over 0 cs ≡ o → polynomial_of cs ≢ no_zeros
never_none (Some i) cs is e = let wide : polynomial_of cs ≡ Err (record { index = i }) = rw (is, polynomial_of) refl in cc
never_none None cs is e = let narrow : polynomial_of cs ≡ Ok (tested.Poly cs) = rw (is, polynomial_of) refl in cc

not_zero : (c : ℤ) → pos 0 <ℤ c → int_eq c (pos 0) ≡ false
not_zero c h = grind (arith, ints)

positive_has : (cs : List ℤ) → pos 0 <ℤ get_or cs 0 (pos 0) → tested_list (without_leading_zeros cs) ≢ no_zeros
positive_has [] h e = absurd (omega (arith, ints))
positive_has (c ∷ cs) h e =
    let kept : without_leading_zeros (c ∷ cs) ≡ c ∷ cs = rw (not_zero c h) refl in
    let xs = without_common_twos (with_positive_lead (c ∷ cs)) in
    never_none (first_over 0 xs) xs refl (sym (ap tested_list kept) ∙ e)

-- ---- the first coefficient in z of a denominator

first_sum : (e : ℤ) → pos 0 +ℤ e *ℤ pos 1 ≡ e
first_sum e = ring (env (e ∷ [])) (plus (num (pos 0)) (times (var 0) (num (pos 1)))) (var 0) refl

first_coefficient : (order : ℕ) (e : Vector) → z_coefficient order e 0 ≡ e 0
first_coefficient order e = ap (λ n. pos 0 +ℤ e 0 *ℤ pos n) (choose_none (order - 0)) ∙ first_sum (e 0)

abbrev items_of : Result (List ℤ) PolyWide → List ℤ
items_of (Ok xs) = xs
items_of (Err e) = []

first_of_range : (f : ℕ → ℤ) (n : ℕ) → 1 ≤ n → get_or (map f (range_with_len 0 n)) 0 (pos 0) ≡ f 0
first_of_range f zero h = absurd (omega arith)
first_of_range f (suc n) h = refl

pub expansion_first : (d : Dyadic) (ws cs : List ℤ) (o : Option ℕ) → first_wide (scaled d (length ws - 1) (vector_of ws)) (length ws) ≡ o
    → 1 ≤ length ws → expansion d ws ≡ Ok cs → get_or cs 0 (pos 0) ≡ scaled d (length ws - 1) (vector_of ws) 0
expansion_first d ws cs (Some j) is some e = let wide : expansion d ws ≡ Err (record { index = j }) = rw (is, expansion) refl in cc
expansion_first d ws cs None is some e =
    let E = scaled d (length ws - 1) (vector_of ws) in
    let made : expansion d ws ≡ Ok (map (z_coefficient (length ws - 1) E) (range_with_len 0 (length ws))) = rw (is, expansion) refl in
    let same : cs ≡ map (z_coefficient (length ws - 1) E) (range_with_len 0 (length ws)) = ap items_of (sym e ∙ made) in
    ap (λ xs. get_or xs 0 (pos 0)) same ∙ first_of_range (z_coefficient (length ws - 1) E) (length ws) some ∙ first_coefficient (length ws - 1) E

positive_product : (w : ℤ) (m n : ℕ) → pos 0 <ℤ w → 0 < m → 0 < n → pos 0 <ℤ (w *ℤ pos (m * n))
positive_product w m n h i j =
    let p = mul-le 1 1 m n i j in
    mul_positive w (pos (m * n)) h (omega (arith, ints))

scaled_first : (d : Dyadic) (order : ℕ) (w : Vector) → 0 < d.numerator → 0 < d.denominator → pos 0 <ℤ w 0 → pos 0 <ℤ scaled d order w 0
scaled_first d order w p q h =
    positive_product (w 0) (d.numerator ^ 0) (d.denominator ^ (order - 0)) h (power_positive d.numerator 0 p) (power_positive d.denominator (order - 0) q)

delta_first : (delta : ℤ) (f : ℕ) (ws cs : List ℤ) → pos 1 ≤ℤ delta → 1 ≤ length ws → pos 0 <ℤ get_or ws 0 (pos 0)
    → expansion (dyadic (unsigned_abs delta) f) ws ≡ Ok cs → pos 0 <ℤ get_or cs 0 (pos 0)
delta_first delta f ws cs h some lead e =
    let d = dyadic (unsigned_abs delta) f in
    let positive = dyadic_positive (unsigned_abs delta) f (omega (arith, ints)) in
    let first = scaled_first d (length ws - 1) (vector_of ws) positive.0 positive.1 lead in
    rw (expansion_first d ws cs (first_wide (scaled d (length ws - 1) (vector_of ws)) (length ws)) refl some e) first

unit_positive : (w : ℤ) (f : ℕ) → w ≡ pos (2 ^ f) → pos 0 <ℤ w
unit_positive w f e = let p = pow_pos f in omega (arith, ints)

z_first_case : (b : Bool) (q : QuantisedView) (cs : List ℤ) → is_delta q.realisation ≡ b → IsQuantisedView q → z_list q q.a ≡ Ok cs → pos 0 <ℤ get_or cs 0 (pos 0)
z_first_case true q cs is h e =
    let lead = unit_positive (get_or q.a 0 (pos 0)) q.format.frac_bits h.leading in
    let delta = rw is at h.delta in
    let made : expansion (dyadic (unsigned_abs q.delta) q.format.frac_bits) q.a ≡ Ok cs = rw is at e in
    delta_first q.delta q.format.frac_bits q.a cs delta.0 h.some lead made
z_first_case false q cs is h e =
    let lead = unit_positive (get_or q.a 0 (pos 0)) q.format.frac_bits h.leading in
    let same : Ok q.a ≡ Ok cs = rw is at e in
    let items : q.a ≡ cs = ap items_of same in
    rw (← items) lead

pub z_first : (q : QuantisedView) (cs : List ℤ) → IsQuantisedView q → z_list q q.a ≡ Ok cs → pos 0 <ℤ get_or cs 0 (pos 0)
z_first q cs h e = z_first_case (is_delta q.realisation) q cs refl h e

denominator_case : (z : Result (List ℤ) PolyWide) → ((cs : List ℤ) → z ≡ Ok cs → pos 0 <ℤ get_or cs 0 (pos 0))
    → and_then z (λ cs. tested_list (without_leading_zeros cs)) ≢ no_zeros
denominator_case (Ok cs) h e = positive_has cs (h cs refl) e
denominator_case (Err r) h e = cc

denominator_has : (q : QuantisedView) → IsQuantisedView q → tested_of q side.Denominator ≢ no_zeros
denominator_has q h e = denominator_case (z_list q q.a) (λ cs is. z_first q cs h is) e

pub only_numerator : (q : QuantisedView) (s : Side) (r : Result Tested PolyWide) → IsQuantisedView q
    → MatchResult r (λ found. tested_of q s ≡ Ok found) (λ refusal. tested_of q s ≡ Err refusal)
    → IfOk r (λ found. found ≡ tested.NoZeros → s ≡ side.Numerator)
only_numerator q side.Numerator (Ok found) h m = λ e. refl
only_numerator q side.Denominator (Ok found) h m = λ e. absurd (denominator_has q h (m ∙ ap Ok e))
only_numerator q s (Err refusal) h m = tt
