-- What an answer says of a polynomial.
use Rattle.std.specs.Prelude.{◌≡◌, ◌-◌, ◌≤◌, List, length, Option, Some, None, ℤ}
use Rattle.dsv_algebra.specs.Vectors.{form_at, vector_of, matrix_of}
use Rattle.dsv_algebra.specs.Companion.{StrictlyFallsAlong, IsKeptAwayAlong}
use Rattle.dsv_forms.specs.declared.offers.Form.{Form}
use Rattle.dsv_forms.specs.declared.offers.FormOffer.{FormOffer}
use Rattle.dsv_forms.specs.declared.offers.FormOffer.TheVariants as offered
use Rattle.dsv_forms.specs.declared.refusal.FormRefusal.{FormRefusal}
use Rattle.dsv_forms.specs.FallForm.{IsFallForm}
use Rattle.dsv_forms.specs.Poly.{most_coefficients}
use Rattle.dsv_forms.specs.Refusals.{falls_refusal, kept_away_refusal}
use Rattle.dsv_closed_forms.specs.ClosedForm.{IsAccepted}
use Rattle.dsv_lyapunov.specs.declared.checked_form.CheckedForm.{CheckedForm}
use Rattle.dsv_lyapunov.specs.declared.checked_form.CheckedForm.TheVariants as form

-- The form strictly falls along each trajectory of the polynomial, and loses the fall form in a
-- step.
pub record IsStable (poly : List ℤ) (form fall : Form) : Type 0 where
  pub falls : StrictlyFallsAlong (length poly - 1) (vector_of poly) (matrix_of form.rows)
  pub places : form.d ≡ length poly - 1
  pub fall_form : IsFallForm (length poly - 1) (vector_of poly) form fall
  pub few : length poly ≤ most_coefficients

-- The form has this value, a negative one, at the start, and rises in no step of a trajectory of
-- the polynomial; in a step it loses the fall form. So the trajectory from the start is kept away
-- from 0.
pub record IsKeptAwayFrom (poly : List ℤ) (form : Form) (start : List ℤ) (fall : Form) (value : ℤ) :
    Type 0 where
  pub away : IsKeptAwayAlong (length poly - 1) (vector_of poly) (matrix_of form.rows)
      (vector_of start)
  pub value_at : value ≡ form_at (length poly - 1) (matrix_of form.rows) (vector_of start)
  pub places : form.d ≡ length poly - 1
  pub fall_form : IsFallForm (length poly - 1) (vector_of poly) form fall
  pub few : length poly ≤ most_coefficients

-- what a checked form shows of the polynomial
abbrev pub IsShown : List ℤ → CheckedForm → Type 0
IsShown poly (form.Falls offer fall) = IsStable poly offer.form fall
IsShown poly (form.KeptAway offer fall value) =
    IsKeptAwayFrom poly offer.form offer.start fall value

-- the offer of a checked form
abbrev pub offer_in : CheckedForm → FormOffer
offer_in (form.Falls falls fall) = offered.Falls falls
offer_in (form.KeptAway away fall value) = offered.KeptAway away

-- why an offer isn't accepted for a polynomial
abbrev pub offer_refusal : List ℤ → FormOffer → Option FormRefusal
offer_refusal poly (offered.Falls falls) = falls_refusal poly falls
offer_refusal poly (offered.KeptAway away) = kept_away_refusal poly away

-- an offer came, and its check accepts it
abbrev pub GivesAccepted : List ℤ → Option FormOffer → Type 0
GivesAccepted poly None = ⊥
GivesAccepted poly (Some offer) = IsAccepted poly offer

-- there is one
abbrev pub IsThere : {A : Type 0} → Option A → Type 0
IsThere None = ⊥
IsThere (Some x) = Unit {0}
