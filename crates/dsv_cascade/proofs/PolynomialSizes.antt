-- How many coefficients a section's polynomial has.
use Rattle.std.proofs.Common.{◌≡◌, ℕ, zero, suc, ◌-◌, ◌≤◌, Bool, true, false, List, [], ◌∷◌, length, map, refl, ap, sym, ◌∙◌, arith, Option, Some, None, Result, Ok, Err, int_lt, if◌then◌else◌}
use Rattle.std.proofs.Math.IntN.{ℤ, pos, neg_ℤ}
use Rattle.std.proofs.lemmas.Bool.{cond_both}
use Rattle.std.proofs.lemmas.List.{length-map}
use Rattle.std.proofs.lemmas.List.FromFn.{length-map-range_with_len}
use Rattle.std.specs.Int.{int_div_euclid}
use Rattle.std.specs.Int.RustNames.{unsigned_abs}
use Rattle.std.specs.List.{range_with_len}
use Rattle.std.specs.Ordering.{int_eq}
use Rattle.dsv_text.specs.Stages.{and_then}
use Rattle.dsv_algebra.specs.Vectors.{Vector, vector_of}
use Rattle.dsv_names.specs.Realisations.{is_delta}
use Rattle.dsv_quantiser.specs.QuantisedView.{QuantisedView}
use Rattle.dsv_delta.specs.declared.refusal.PolyWide.{PolyWide}
use Rattle.dsv_delta.specs.ZCoefficients.{Dyadic, dyadic, scaled, first_wide, z_coefficient, expansion}
use Rattle.dsv_tested.specs.declared.side.Tested.{Tested}
use Rattle.dsv_tested.specs.declared.side.Tested.TheVariants as tested
use Rattle.dsv_tested.specs.Tested.{z_list, without_leading_zeros, with_positive_lead, are_even, halved_within, without_common_twos, first_over, tested_list}
use Rattle.dsv_tested.proofs.TestedCoefficients.{length-reduced, length-positive}
use Rattle.dsv_cascade.specs.Stability.{HasPoly}

-- ---- as many numbers
length-expanded : (wide : Option ℕ) (f : Vector) (n : ℕ) (cs : List ℤ)
    → elim wide as (λ o. Result (List ℤ) PolyWide) [ Some index ↦ Err (record { index = index }) | None ↦ Ok (map f (range_with_len 0 n)) ] ≡ Ok cs → length cs ≡ n
length-expanded (Some index) f n cs e = cc
length-expanded None f n cs e =
    let same : map f (range_with_len 0 n) ≡ cs = cc in
    sym (ap length same) ∙ length-map-range_with_len f 0 n

length-expansion : (d : Dyadic) (ws cs : List ℤ) → expansion d ws ≡ Ok cs → length cs ≡ length ws
length-expansion d ws cs e =
    let E = scaled d (length ws - 1) (vector_of ws) in
    length-expanded (first_wide E (length ws)) (z_coefficient (length ws - 1) E) (length ws) cs e

length-z_list : (delta : Bool) (d : Dyadic) (ws cs : List ℤ) → (if delta then expansion d ws else Ok ws) ≡ Ok cs → length cs ≡ length ws
length-z_list true d ws cs e = length-expansion d ws cs e
length-z_list false d ws cs e = let same : ws ≡ cs = cc in sym (ap length same)

-- ---- no more numbers
length-nonzero-le : (cs : List ℤ) → length (without_leading_zeros cs) ≤ length cs
length-nonzero-le [] = omega arith
length-nonzero-le (c ∷ cs) =
    cond_both (int_eq c (pos 0)) (without_leading_zeros cs) (c ∷ cs) (λ xs. length xs ≤ length (c ∷ cs)) (λ e. omega (arith, length-nonzero-le cs)) (λ e. omega arith)

same_poly : (over : Option ℕ) (cs poly : List ℤ)
    → elim over as (λ o. Result Tested PolyWide) [ Some index ↦ Err (record { index = index }) | None ↦ Ok (tested.Poly cs) ] ≡ Ok (tested.Poly poly) → cs ≡ poly
same_poly (Some index) cs poly e = cc
same_poly None cs poly e = cc

length-tested : (cs poly : List ℤ) → tested_list cs ≡ Ok (tested.Poly poly) → length poly ≡ length cs
length-tested [] poly e = cc
length-tested (c ∷ cs) poly e =
    let xs = with_positive_lead (c ∷ cs) in
    let same : without_common_twos xs ≡ poly = same_poly (first_over 0 (without_common_twos xs)) (without_common_twos xs) poly e in
    sym (ap length same) ∙ length-reduced xs ∙ length-positive (c ∷ cs)

few_of_stage : (z : Result (List ℤ) PolyWide) (n : ℕ) (poly : List ℤ) → ((cs : List ℤ) → z ≡ Ok cs → length cs ≡ n)
    → and_then z (λ cs. tested_list (without_leading_zeros cs)) ≡ Ok (tested.Poly poly) → length poly ≤ n
few_of_stage (Ok cs) n poly h e = omega (arith, h cs refl, length-nonzero-le cs, length-tested (without_leading_zeros cs) poly e)
few_of_stage (Err wide) n poly h e = cc

-- a section's polynomial has no more coefficients than the section has
pub few_coefficients : (q : QuantisedView) (poly : List ℤ) → HasPoly q poly → length poly ≤ length q.a
few_coefficients q poly e =
    few_of_stage (z_list q q.a) (length q.a) poly (λ cs is. length-z_list (is_delta q.realisation) (dyadic (unsigned_abs q.delta) q.format.frac_bits) q.a cs is) e
