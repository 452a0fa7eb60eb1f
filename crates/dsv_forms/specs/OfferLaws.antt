-- What the check reads of an offer of a form that falls, and how small its numbers are.
use Rattle.std.specs.Prelude.{◌≡◌, ℕ, ◌<◌, ◌≤◌, true, List, length, None, ℤ, pos, ◌<ℤ◌}
use Rattle.dsv_algebra.specs.Narrow.{is_narrow}
use Rattle.dsv_algebra.specs.Vectors.{matrix_of}
use Rattle.dsv_forms.specs.declared.offers.Falls.{Falls}
use Rattle.dsv_forms.specs.declared.offers.Squares.{Squares}
use Rattle.dsv_forms.specs.Padded.{offer_alone}
use Rattle.dsv_forms.specs.Poly.{most_coefficients}
use Rattle.dsv_forms.specs.Refusals.{weights_of, rows_of, rest_of, falls_refusal}

-- The check of an offer reads the numbers of its places alone.
abbrev pub AreReadInPlaces : Type 0
AreReadInPlaces = (c : List ℤ) (offer : Falls) → length c ≤ most_coefficients
    → falls_refusal c (offer_alone offer) ≡ falls_refusal c offer

-- The d squares of a form of d places have a positive factor; their weights, the entries of their
-- rows and those of the rest are less than 2^126 in size.
pub record AreNarrow (d : ℕ) (s : Squares) : Type 0 where
  pub factor : pos 0 <ℤ s.m
  pub count : s.count ≡ d
  pub weights : (k : ℕ) → k < d → is_narrow (weights_of s k) ≡ true
  pub rows : (k j : ℕ) → k < d → j < d → is_narrow (rows_of s k j) ≡ true
  pub rest : (i j : ℕ) → i < d → j < d → is_narrow (rest_of s i j) ≡ true

-- The numbers in an offer's places are less than 2^126 in size, but for the factors.
pub record IsNarrow (offer : Falls) : Type 0 where
  pub form : (i j : ℕ) → i < offer.form.d → j < offer.form.d
      → is_narrow (matrix_of offer.form.rows i j) ≡ true
  pub positive : AreNarrow offer.form.d offer.positive
  pub fall : AreNarrow offer.form.d offer.fall

-- An accepted offer is such an offer.
abbrev pub AcceptedAreNarrow : Type 0
AcceptedAreNarrow = (c : List ℤ) (offer : Falls) → falls_refusal c offer ≡ None → IsNarrow offer
