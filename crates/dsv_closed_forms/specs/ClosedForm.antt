-- The closed forms: what is offered for a polynomial, in terms of its coefficients.
use Rattle.std.specs.Prelude.{◌≡◌, ℕ, ◌^◌, Bool, true, false, ◌&&◌}
use Rattle.std.specs.Prelude.{nat_le, List, [], ◌∷◌}
use Rattle.std.specs.Prelude.{map, int_lt, if◌then◌else◌, Option, Some}
use Rattle.std.specs.Prelude.{None, ℤ, pos, negsuc, neg_ℤ, ◌+ℤ◌, ◌-ℤ◌, ◌*ℤ◌}
use Rattle.std.specs.List.{list_all}
use Rattle.std.specs.Ordering.{int_eq}
use Rattle.std.specs.Int.RustNames.{unsigned_abs}
use Rattle.dsv_algebra.specs.Vectors.{form_at, vector_of, matrix_of}
use Rattle.dsv_algebra.specs.Squares.{size}
use Rattle.dsv_forms.specs.declared.offers.Falls.{Falls}
use Rattle.dsv_forms.specs.declared.offers.KeptAway.{KeptAway}
use Rattle.dsv_forms.specs.declared.offers.FormOffer.{FormOffer}
use Rattle.dsv_forms.specs.declared.offers.FormOffer.TheVariants as offered
use Rattle.dsv_forms.specs.Padded.{row_of, form_with, squares_with}
use Rattle.dsv_forms.specs.Refusals.{falls_refusal, kept_away_refusal}

-- the offer for a polynomial of order 0, which has no vectors
abbrev pub without_place : Falls
without_place = record {
  form = form_with [];
  positive = squares_with (pos 1) [] [] [];
  fall = squares_with (pos 1) [] [] [];
}

-- the form 1, shown positive by its own square, which loses w times that square in a step
abbrev pub form_that_falls : ℤ → Falls
form_that_falls w = record {
  form = form_with ((pos 1 ∷ []) ∷ []);
  positive = squares_with (pos 1) (pos 1 ∷ []) ((pos 1 ∷ []) ∷ []) [];
  fall = squares_with (pos 1) (w ∷ []) ((pos 1 ∷ []) ∷ []) [];
}

-- the form -1, negative at 1, which loses the rest w in a step
abbrev pub form_that_never_rises : ℤ → KeptAway
form_that_never_rises w = record {
  form = form_with ((negsuc 0 ∷ []) ∷ []);
  start = row_of (pos 1 ∷ []);
  fall = squares_with (pos 1) [] [] ((w ∷ []) ∷ []);
}

-- ---- the form -(q . v)^2

-- the form that is minus the square of q times the vector, negative at 1, 0, .., which loses
-- nothing in a step
abbrev pub minus_square : List ℤ → KeptAway
minus_square q = record {
  form = form_with (map (λ a. map (λ b. neg_ℤ (a *ℤ b)) q) q);
  start = row_of (pos 1 ∷ []);
  fall = squares_with (pos 1) [] [] [];
}

-- the value at t of the polynomial with these coefficients after the first, which is carried
abbrev pub value_from : ℤ → ℤ → List ℤ → ℤ
value_from t carry [] = carry
value_from t carry (c ∷ cs) = value_from t (c +ℤ t *ℤ carry) cs

-- the polynomial's quotient by z - t, where t is a root: each coefficient plus t times the one
-- before it, the last left out
abbrev pub quotient_from : ℤ → ℤ → List ℤ → List ℤ
quotient_from t carry [] = []
quotient_from t carry (c ∷ cs) = carry ∷ quotient_from t (c +ℤ t *ℤ carry) cs

abbrev pub is_root : ℤ → ℤ → List ℤ → Bool
is_root t c0 cs = int_eq (value_from t c0 cs) (pos 0)

-- the offer where 1 or else -1 is a root
abbrev pub root_form : ℤ → List ℤ → Option FormOffer
root_form c0 cs =
    if is_root (pos 1) c0 cs
    then Some (offered.KeptAway (minus_square (quotient_from (pos 1) c0 cs)))
    else if is_root (negsuc 0) c0 cs
    then Some (offered.KeptAway (minus_square (quotient_from (negsuc 0) c0 cs)))
    else None

-- ---- order 2

-- how far c0 + c2 is from c1, as the difference of their squares
abbrev pub gap : ℤ → ℤ → ℤ → ℤ
gap c0 c1 c2 = (c0 +ℤ c2) *ℤ (c0 +ℤ c2) -ℤ c1 *ℤ c1

-- the form below loses c0^2 times this number on the diagonal in a step
abbrev pub fall_scale : ℤ → ℤ → ℤ → ℤ
fall_scale c0 c1 c2 = (c0 -ℤ c2) *ℤ gap c0 c1 c2

abbrev pub second_rows : ℤ → ℤ → ℤ → List (List ℤ)
second_rows c0 c1 c2 =
    let r = pos 2 *ℤ (c0 +ℤ c2) *ℤ (c0 *ℤ c0) in
    let p = pos 2 *ℤ c0 *ℤ (c1 *ℤ c2) in
    let s = pos 2 *ℤ (c0 +ℤ c2) *ℤ (c2 *ℤ c2) +ℤ fall_scale c0 c1 c2 in
    (r ∷ p ∷ []) ∷ (p ∷ s ∷ []) ∷ []

-- the matrix with w on the diagonal
abbrev pub diagonal : ℤ → List (List ℤ)
diagonal w = (w ∷ pos 0 ∷ []) ∷ (pos 0 ∷ w ∷ []) ∷ []

-- the form, (c0 + c2) times which is 2 ((c0 + c2) c0 x + c1 c2 y)^2 + gap (c0^2 + c2^2) y^2
abbrev pub second_that_falls : ℤ → ℤ → ℤ → Falls
second_that_falls c0 c1 c2 =
    let w = c0 *ℤ c0 *ℤ fall_scale c0 c1 c2 in
    record {
      form = form_with (second_rows c0 c1 c2);
      positive = squares_with (c0 +ℤ c2)
          (pos 2 ∷ (gap c0 c1 c2 *ℤ (c0 *ℤ c0 +ℤ c2 *ℤ c2)) ∷ [])
          ((((c0 +ℤ c2) *ℤ c0) ∷ (c1 *ℤ c2) ∷ []) ∷ (pos 0 ∷ pos 1 ∷ []) ∷ []) [];
      fall = squares_with (pos 1) (w ∷ w ∷ []) (diagonal (pos 1)) [];
    }

-- the first start at which a form of two places is negative, or the last
abbrev pub negative_start : List (List ℤ) → List (List ℤ) → List ℤ → List ℤ
negative_start rows [] last = last
negative_start rows (start ∷ starts) last =
    if int_lt (form_at 2 (matrix_of rows) (vector_of start)) (pos 0) then start
    else negative_start rows starts last

-- a form that loses w, 0 or more, on the diagonal in a step
abbrev pub second_kept_away : ℤ → ℤ → ℤ → List (List ℤ) → ℤ → KeptAway
second_kept_away c0 c1 c2 rows w = record {
  form = form_with rows;
  start = row_of (negative_start rows ((pos 1 ∷ pos 0 ∷ []) ∷ (neg_ℤ c2 ∷ c0 ∷ [])
      ∷ (c2 ∷ c0 ∷ []) ∷ []) (neg_ℤ c1 ∷ c0 ∷ []));
  fall = squares_with (pos 1) [] [] (diagonal w);
}

-- the form of a polynomial whose last coefficient is its first one
abbrev pub equal_ends : ℤ → ℤ → ℤ → KeptAway
equal_ends c0 c1 c2 = record {
  form = form_with ((neg_ℤ (pos 2 *ℤ c0) ∷ neg_ℤ c1 ∷ [])
      ∷ (neg_ℤ c1 ∷ neg_ℤ (pos 2 *ℤ c2) ∷ []) ∷ []);
  start = row_of (pos 1 ∷ []);
  fall = squares_with (pos 1) [] [] [];
}

abbrev pub negated_rows : List (List ℤ) → List (List ℤ)
negated_rows = map (map neg_ℤ)

-- stable: c0 is greater than the size of c2, and c0 + c2 than the size of c1
abbrev pub second_leads : ℤ → ℤ → ℤ → Bool
second_leads c0 c1 c2 = int_lt (size c2) c0 && int_lt (size c1) (c0 +ℤ c2)

abbrev pub second_order : ℤ → ℤ → ℤ → FormOffer
second_order c0 c1 c2 =
    let k = fall_scale c0 c1 c2 in
    let rows = second_rows c0 c1 c2 in
    if second_leads c0 c1 c2 then offered.Falls (second_that_falls c0 c1 c2)
    else if int_lt (pos 0) k
    then offered.KeptAway (second_kept_away c0 c1 c2 rows (c0 *ℤ c0 *ℤ k))
    else if int_lt k (pos 0)
    then offered.KeptAway
    (second_kept_away c0 c1 c2 (negated_rows rows) (neg_ℤ (c0 *ℤ c0 *ℤ k)))
    else if int_eq c2 c0 then offered.KeptAway (equal_ends c0 c1 c2)
    else if int_eq c1 (neg_ℤ (c0 +ℤ c2))
    then offered.KeptAway (minus_square (c0 ∷ neg_ℤ c2 ∷ []))
    else offered.KeptAway (minus_square (c0 ∷ c2 ∷ []))

-- ---- all orders

abbrev pub first_order : ℤ → ℤ → FormOffer
first_order c0 c1 =
    if int_lt (size c1) c0 then offered.Falls (form_that_falls (c0 *ℤ c0 -ℤ c1 *ℤ c1))
    else offered.KeptAway (form_that_never_rises (c1 *ℤ c1 -ℤ c0 *ℤ c0))

-- no number is greater in size
abbrev pub are_within : ℕ → List ℤ → Bool
are_within most cs = list_all (λ c. nat_le (unsigned_abs c) most) cs

-- the greatest size of a coefficient at which order 2 has a closed form, and orders from 3 on
abbrev pub second_limit : ℕ
second_limit = 2 ^ 23

abbrev pub root_limit : ℕ
root_limit = 2 ^ 28

-- the order is 0, or the first of the two coefficients is greater than the size of the second
abbrev pub first_leads : List ℤ → Bool
first_leads [] = true
first_leads (c0 ∷ []) = true
first_leads (c0 ∷ c1 ∷ cs) = int_lt (size c1) c0

-- the offer for a polynomial, where one of the closed forms applies
abbrev pub closed_form_of : List ℤ → Option FormOffer
closed_form_of [] = None
closed_form_of (c0 ∷ []) = Some (offered.Falls without_place)
closed_form_of (c0 ∷ c1 ∷ []) = Some (first_order c0 c1)
closed_form_of (c0 ∷ c1 ∷ c2 ∷ []) =
    if are_within second_limit (c0 ∷ c1 ∷ c2 ∷ []) then Some (second_order c0 c1 c2) else None
closed_form_of (c0 ∷ c1 ∷ c2 ∷ c3 ∷ cs) =
    if are_within root_limit (c0 ∷ c1 ∷ c2 ∷ c3 ∷ cs) then root_form c0 (c1 ∷ c2 ∷ c3 ∷ cs)
    else None

-- the check of the offer accepts it for the polynomial
abbrev pub IsAccepted : List ℤ → FormOffer → Type 0
IsAccepted cs (offered.Falls offer) = falls_refusal cs offer ≡ None
IsAccepted cs (offered.KeptAway offer) = kept_away_refusal cs offer ≡ None

-- whether the offer is of a form that falls
abbrev pub offers_fall : FormOffer → Bool
offers_fall (offered.Falls offer) = true
offers_fall (offered.KeptAway offer) = false
