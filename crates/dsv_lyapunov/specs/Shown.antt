-- What an answer that was checked shows of a polynomial, whatever it is of.
use Rattle.std.specs.Prelude.{◌≡◌, List, None, IfSome, ℤ}
use Rattle.dsv_algebra.specs.Vectors.{vector_of, matrix_of, form_at}
use Rattle.dsv_algebra.specs.Companion.{StrictlyFallsAlong, IsKeptAwayAlong}
use Rattle.dsv_forms.specs.declared.offers.Form.{Form}
use Rattle.dsv_forms.specs.declared.offers.Falls.{Falls}
use Rattle.dsv_forms.specs.declared.offers.KeptAway.{KeptAway}
use Rattle.dsv_forms.specs.declared.offers.FormOffer.TheVariants as offered
use Rattle.dsv_forms.specs.FallForm.{IsFallForm}
use Rattle.dsv_forms.specs.Poly.{degree}
use Rattle.dsv_forms.specs.Refusals.{falls_refusal, kept_away_refusal}
use Rattle.dsv_closed_forms.specs.ClosedForm.{closed_form_of}

-- The form is positive and strictly falls along every nonzero trajectory of the polynomial; it is
-- the closed form's, where there is one, its check accepts it, and `fall` is what it loses in a
-- step.
pub record ShowsFall (poly : List ℤ) (offer : Falls) (fall : Form) : Type 0 where
  pub falls : StrictlyFallsAlong (degree poly) (vector_of poly) (matrix_of offer.form.rows)
  pub closed_form : IfSome (closed_form_of poly) (λ closed. offered.Falls offer ≡ closed)
  pub accepted : falls_refusal poly offer ≡ None
  pub fall_form : IsFallForm (degree poly) (vector_of poly) offer.form fall

-- The form is negative at the start, where it has this value, and rises in no step, so that the
-- trajectory from the start is kept away from 0; it is the closed form's, where there is one, its
-- check accepts it, and `fall` is what it loses in a step.
pub record ShowsKeptAway (poly : List ℤ) (offer : KeptAway) (fall : Form) (value : ℤ) : Type 0 where
  pub kept_away : IsKeptAwayAlong (degree poly) (vector_of poly) (matrix_of offer.form.rows)
      (vector_of offer.start)
  pub closed_form : IfSome (closed_form_of poly) (λ closed. offered.KeptAway offer ≡ closed)
  pub accepted : kept_away_refusal poly offer ≡ None
  pub fall_form : IsFallForm (degree poly) (vector_of poly) offer.form fall
  pub value_at : value ≡ form_at (degree poly) (matrix_of offer.form.rows) (vector_of offer.start)
