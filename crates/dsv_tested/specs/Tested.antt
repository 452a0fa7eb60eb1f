-- The polynomial that stands for a side of a quantised controller.
use Rattle.std.specs.Prelude.{ℕ, zero, suc, ◌%◌, ◌==◌, nat_lt, int_lt, Bool, if◌then◌else◌}
use Rattle.std.specs.Prelude.{List, [], ◌∷◌, map, Option, Some, None, Result, Ok, Err}
use Rattle.std.specs.Prelude.{ℤ, pos, neg_ℤ}
use Rattle.std.specs.List.{list_all}
use Rattle.std.specs.Ordering.{int_eq}
use Rattle.std.specs.Int.{int_div_euclid}
use Rattle.std.specs.Int.RustNames.{unsigned_abs}
use Rattle.dsv_text.specs.Stages.{and_then}
use Rattle.dsv_names.specs.Realisations.{is_delta}
use Rattle.dsv_names.specs.declared.property.RootProperty.{RootProperty}
use Rattle.dsv_names.specs.declared.property.RootProperty.TheVariants as property
use Rattle.dsv_quantiser.specs.QuantisedView.{QuantisedView}
use Rattle.dsv_delta.specs.ZCoefficients.{z_coefficients}
use Rattle.dsv_delta.specs.declared.refusal.PolyWide.{PolyWide}
use Rattle.dsv_forms.specs.Poly.{greatest_coefficient}
use Rattle.dsv_tested.specs.declared.side.Side.{Side}
use Rattle.dsv_tested.specs.declared.side.Side.TheVariants as side
use Rattle.dsv_tested.specs.declared.side.Tested.{Tested}
use Rattle.dsv_tested.specs.declared.side.Tested.TheVariants as tested

-- the side of a controller that a property tests: stability its denominator, minimum phase its
-- numerator
abbrev pub side_of : RootProperty → Side
side_of property.Stability = side.Denominator
side_of property.MinimumPhase = side.Numerator

-- the words of a side
abbrev pub words_of : QuantisedView → Side → List ℤ
words_of q side.Denominator = q.a
words_of q side.Numerator = q.b

-- Its coefficients in z, those of the highest power first: the words themselves in a direct form,
-- and what the words of a delta form stand for, or the least index at which a number on the way
-- passes 2^110.
abbrev pub z_list : QuantisedView → List ℤ → Result (List ℤ) PolyWide
z_list q words =
    if is_delta q.realisation
    then z_coefficients words (unsigned_abs q.delta) q.format.frac_bits
    else Ok words

-- the list from its first number that isn't 0 on
abbrev pub without_leading_zeros : List ℤ → List ℤ
without_leading_zeros [] = []
without_leading_zeros (c ∷ cs) = if int_eq c (pos 0) then without_leading_zeros cs else c ∷ cs

-- with all signs changed where the first number is negative
abbrev pub with_positive_lead : List ℤ → List ℤ
with_positive_lead [] = []
with_positive_lead (c ∷ cs) = if int_lt c (pos 0) then map neg_ℤ (c ∷ cs) else c ∷ cs

abbrev pub are_even : List ℤ → Bool
are_even cs = list_all (λ c. unsigned_abs c % 2 == 0) cs

-- halved as long as all are even, at most n times
abbrev pub halved_within : ℕ → List ℤ → List ℤ
halved_within zero cs = cs
halved_within (suc n) cs =
    if are_even cs then halved_within n (map (λ c. int_div_euclid c (pos 2)) cs) else cs

-- the greatest power of two that divides all of them taken out; a number that isn't 0 is even less
-- often in a row than its size
abbrev pub without_common_twos : List ℤ → List ℤ
without_common_twos [] = []
without_common_twos (c ∷ cs) = halved_within (unsigned_abs c) (c ∷ cs)

-- the least index, after the ones before, of a number over 2^44 in size
abbrev pub first_over : ℕ → List ℤ → Option ℕ
first_over before [] = None
first_over before (c ∷ cs) =
    if nat_lt greatest_coefficient (unsigned_abs c) then Some before else first_over (suc before) cs

-- a polynomial with these coefficients, where none is over 2^44 in size
abbrev pub polynomial_of : List ℤ → Result Tested PolyWide
polynomial_of cs =
    elim (first_over 0 cs) [
      | Some index ↦ Err (record { index = index })
      | None ↦ Ok (tested.Poly cs)
    ]

-- the polynomial of a list that begins with a number that isn't 0
abbrev pub tested_list : List ℤ → Result Tested PolyWide
tested_list [] = Ok tested.NoZeros
tested_list (c ∷ cs) = polynomial_of (without_common_twos (with_positive_lead (c ∷ cs)))

-- the polynomial that is tested for a side; or that its coefficients are all 0; or the least index
-- at which a number is too wide
abbrev pub tested_of : QuantisedView → Side → Result Tested PolyWide
tested_of q of_side =
    and_then (z_list q (words_of q of_side)) (λ cs. tested_list (without_leading_zeros cs))
