-- A polynomial that is tested has a coefficient.
use Rattle.std.proofs.Common.{◌≡◌, ◌∙◌, ap, sym, refl, ℕ, zero, suc, ◌<◌, List, [], ◌∷◌, length, map, Option, Some, None, Result, Ok, Err, int_lt, arith}
use Rattle.std.proofs.Math.IntN.{ℤ, pos, neg_ℤ}
use Rattle.std.proofs.lemmas.Bool.{cond_both}
use Rattle.std.proofs.lemmas.List.{length-map}
use Rattle.std.specs.Int.RustNames.{unsigned_abs}
use Rattle.dsv_text.specs.Stages.{and_then}
use Rattle.dsv_quantiser.specs.QuantisedView.{QuantisedView}
use Rattle.dsv_delta.specs.declared.refusal.PolyWide.{PolyWide}
use Rattle.dsv_tested.specs.Tested.{words_of, z_list, without_leading_zeros, with_positive_lead, are_even, halved_within, without_common_twos, first_over, tested_list, tested_of}
use Rattle.dsv_tested.specs.declared.side.Side.{Side}
use Rattle.dsv_tested.specs.declared.side.Tested.{Tested}
use Rattle.dsv_tested.specs.declared.side.Tested.TheVariants as tested
use Rattle.dsv_tested.proofs.Evens.{half}

-- ---- as many numbers
length-halved : (n : ℕ) (cs : List ℤ) → length (halved_within n cs) ≡ length cs
length-halved zero cs = refl
length-halved (suc n) cs =
    cond_both (are_even cs) (halved_within n (map half cs)) cs (λ xs. length xs ≡ length cs) (λ e. length-halved n (map half cs) ∙ length-map cs half) (λ e. refl)

pub length-reduced : (cs : List ℤ) → length (without_common_twos cs) ≡ length cs
length-reduced [] = refl
length-reduced (c ∷ cs) = length-halved (unsigned_abs c) (c ∷ cs)

pub length-positive : (cs : List ℤ) → length (with_positive_lead cs) ≡ length cs
length-positive [] = refl
length-positive (c ∷ cs) =
    cond_both (int_lt c (pos 0)) (map neg_ℤ (c ∷ cs)) (c ∷ cs) (λ xs. length xs ≡ length (c ∷ cs)) (λ e. length-map (c ∷ cs) neg_ℤ) (λ e. refl)

-- ---- of a list
poly_or_wide : (over : Option ℕ) (cs poly : List ℤ)
    → elim over as (λ o. Result Tested PolyWide) [ Some index ↦ Err (record { index = index }) | None ↦ Ok (tested.Poly cs) ] ≡ Ok (tested.Poly poly) → cs ≡ poly
poly_or_wide (Some index) cs poly e = cc
poly_or_wide None cs poly e = cc

some_of_list : (cs poly : List ℤ) → tested_list cs ≡ Ok (tested.Poly poly) → 0 < length poly
some_of_list [] poly e = cc
some_of_list (c ∷ cs) poly e =
    let xs = with_positive_lead (c ∷ cs) in
    let reduced = without_common_twos xs in
    let is : reduced ≡ poly = poly_or_wide (first_over 0 reduced) reduced poly e in
    let many : length poly ≡ length (c ∷ cs) = sym (ap length is) ∙ length-reduced xs ∙ length-positive (c ∷ cs) in
    omega (arith, many)

-- ---- of a side
some_of_stage : (list : Result (List ℤ) PolyWide) (poly : List ℤ) → and_then list (λ cs. tested_list (without_leading_zeros cs)) ≡ Ok (tested.Poly poly) → 0 < length poly
some_of_stage (Ok cs) poly e = some_of_list (without_leading_zeros cs) poly e
some_of_stage (Err wide) poly e = cc

pub some_coefficients : (q : QuantisedView) (s : Side) (poly : List ℤ) → tested_of q s ≡ Ok (tested.Poly poly) → 0 < length poly
some_coefficients q s poly e = some_of_stage (z_list q (words_of q s)) poly e
