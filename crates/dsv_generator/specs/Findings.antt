-- What is found of a generated quantised controller.
use Rattle.std.specs.Prelude.{◌≡◌, List, Some, Ok, ℤ}
use Rattle.dsv_algebra.specs.Vectors.{vector_of, matrix_of}
use Rattle.dsv_algebra.specs.Companion.{StrictlyFallsAlong, IsKeptAwayAlong}
use Rattle.dsv_names.specs.declared.property.RunProperty.TheVariants as run
use Rattle.dsv_quantiser.specs.QuantisedView.{QuantisedView}
use Rattle.dsv_forms.specs.declared.offers.Falls.{Falls}
use Rattle.dsv_forms.specs.declared.offers.KeptAway.{KeptAway}
use Rattle.dsv_forms.specs.declared.offers.FormOffer.TheVariants as offered
use Rattle.dsv_forms.specs.Poly.{degree}
use Rattle.dsv_closed_forms.specs.ClosedForm.{closed_form_of}
use Rattle.dsv_tested.specs.Tested.{tested_of}
use Rattle.dsv_tested.specs.declared.side.Side.{Side}
use Rattle.dsv_tested.specs.declared.side.Side.TheVariants as side
use Rattle.dsv_tested.specs.declared.side.Tested.{Tested}
use Rattle.dsv_tested.specs.declared.side.Tested.TheVariants as tested
use Rattle.dsv_bounded.specs.RunAnswers.{NeverHappens, GaveUp}
use Rattle.dsv_hints.specs.declared.search.Searched.{Searched}
use Rattle.dsv_hints.specs.declared.search.Searched.TheVariants as searched
use Rattle.dsv_meaning.specs.declared.replays.Trace.{Trace}
use Rattle.dsv_generator.specs.declared.finding.Finding.{Finding}
use Rattle.dsv_generator.specs.declared.finding.RootFinding.{RootFinding}
use Rattle.dsv_generator.specs.declared.finding.RootFinding.TheVariants as root
use Rattle.dsv_generator.specs.Limits.{generated_samples, generated_conflicts}
use Rattle.dsv_realise.specs.Runs.{IsTrace}
use Rattle.dsv_realise.specs.Controllers.{of_controller}

-- The closed form of the polynomial is a form that is positive and strictly falls along every
-- nonzero trajectory.
pub record HasFall (poly : List ℤ) : Type 0 where
  pub offer : Falls
  pub closed_form : closed_form_of poly ≡ Some (offered.Falls offer)
  pub falls : StrictlyFallsAlong (degree poly) (vector_of poly) (matrix_of offer.form.rows)

-- The closed form of the polynomial is a form that is negative at a start and rises in no step, so
-- that the trajectory from there is kept away from 0.
pub record HasStartKeptAway (poly : List ℤ) : Type 0 where
  pub offer : KeptAway
  pub closed_form : closed_form_of poly ≡ Some (offered.KeptAway offer)
  pub kept_away : IsKeptAwayAlong (degree poly) (vector_of poly) (matrix_of offer.form.rows)
      (vector_of offer.start)

-- what is found of a polynomial
abbrev pub ShowsRoots : List ℤ → RootFinding → Type 0
ShowsRoots poly root.Falls = HasFall poly
ShowsRoots poly root.KeptAway = HasStartKeptAway poly
ShowsRoots poly root.NoZeros = ⊥

-- what is found of what is tested
abbrev pub IsOfTested : Tested → RootFinding → Type 0
IsOfTested (tested.Poly poly) f = ShowsRoots poly f
IsOfTested tested.NoZeros f = f ≡ root.NoZeros

-- what is found of a side
abbrev pub IsOfRoots : QuantisedView → Side → RootFinding → Type 0
IsOfRoots q of_side f =
    (what : Tested) × (tested_of q of_side ≡ Ok what) × IsOfTested what f

-- what is found of the overflow of runs
abbrev pub IsOfRuns : QuantisedView → Searched Trace → Type 0
IsOfRuns q (searched.Never log) =
    NeverHappens run.Overflow generated_samples generated_conflicts (of_controller q) log
IsOfRuns q (searched.Happens trace) = IsTrace (of_controller q) generated_samples trace
IsOfRuns q (searched.Spent log) =
    GaveUp run.Overflow generated_samples generated_conflicts (of_controller q) log

-- All that is found is so of the quantised controller.
pub record IsFinding (q : QuantisedView) (finding : Finding) : Type 0 where
  pub stability : IsOfRoots q side.Denominator finding.stability
  pub minimum_phase : IsOfRoots q side.Numerator finding.minimum_phase
  pub overflow : IsOfRuns q finding.overflow
