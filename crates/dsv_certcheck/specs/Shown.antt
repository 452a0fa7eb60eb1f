-- What a certificate that passes its check shows of a controller, alone or in a loop with a plant.
use Rattle.std.specs.Prelude.{◌≡◌, ◌-◌, List, [], ◌∷◌, length, Option, Some, None, Ok, ℤ}
use Rattle.dsv_algebra.specs.Vectors.{vector_of}
use Rattle.dsv_names.specs.declared.property.Property.{Property}
use Rattle.dsv_names.specs.declared.property.Property.TheVariants as property
use Rattle.dsv_names.specs.declared.property.RunProperty.TheVariants as run
use Rattle.dsv_names.specs.declared.property.RootProperty.{RootProperty}
use Rattle.dsv_names.specs.declared.property.RootProperty.TheVariants as root
use Rattle.dsv_fraction.specs.Ratio.{Ratio}
use Rattle.dsv_reader.specs.Controllers.{ControllerView}
use Rattle.dsv_reader.specs.Plants.{PlantView}
use Rattle.dsv_quantiser.specs.QuantisedView.{QuantisedView}
use Rattle.dsv_realise.specs.Netlists.{net_of}
use Rattle.dsv_roundoff.specs.declared.offers.RoundoffOffer.{RoundoffOffer}
use Rattle.dsv_gain.specs.Errors.{error_of}
use Rattle.dsv_gain.specs.Near.{AlwaysNear}
use Rattle.dsv_gain.specs.declared.roundoff.ShownError.{ShownError}
use Rattle.dsv_bounded.specs.RunQuestions.{Happens}
use Rattle.dsv_table.specs.Verdicts.{HasFallingForm}
use Rattle.dsv_loop.specs.Loops.{loop_of}
use Rattle.dsv_tested.specs.Tested.{side_of, tested_of}
use Rattle.dsv_tested.specs.declared.side.Tested.TheVariants as tested
use Rattle.dsv_certcheck.specs.Found.{BecomesFor}
use Rattle.dsv_certfile.specs.Texts.{job_of}
use Rattle.dsv_certfile.specs.declared.certificate.Certificate.{Certificate}
use Rattle.dsv_certfile.specs.declared.certificate.Certificate.TheVariants as certificate
use Rattle.dsv_certfile.specs.declared.job.CertifiedJob.{CertifiedJob}
use Rattle.dsv_certfile.specs.declared.job.Size.{Size}
use Rattle.dsv_gain.specs.Subjects.{NeverOverflows}
use Rattle.dsv_realise.specs.Controllers.{of_controller}
use Rattle.dsv_certfile.specs.declared.job.Size.TheVariants as size

-- A form strictly falls along each trajectory of the polynomial that the property tests.
pub record HasFalling (q : QuantisedView) (p : RootProperty) : Type 0 where
  pub poly : List ℤ
  pub tested : tested_of q (side_of p) ≡ Ok (tested.Poly poly)
  pub falls : HasFallingForm (length poly - 1) (vector_of poly)

-- the controller has the property, over so many samples where it is one of runs
abbrev pub Has : QuantisedView → Property → Size → Type 0
Has q (property.OfRuns p) (size.Samples k) = Happens p (of_controller q) k → ⊥
Has q (property.OfRuns run.Overflow) size.Unbounded = NeverOverflows (of_controller q)
Has q (property.OfRoots p) size.NoSize = HasFalling q p
Has q p s = ⊥

-- A form strictly falls along each trajectory of the loop's polynomial.
pub record HasFallingLoop (q : QuantisedView) (time : Ratio) (plant : PlantView) : Type 0 where
  pub poly : List ℤ
  pub loop : loop_of (q ∷ []) time plant ≡ Ok poly
  pub falls : HasFallingForm (length poly - 1) (vector_of poly)

-- the loop with the plant has the property, which is stability
abbrev pub LoopHas : QuantisedView → Ratio → PlantView → Property → Size → Type 0
LoopHas q time plant (property.OfRoots root.Stability) size.OfLoop = HasFallingLoop q time plant
LoopHas q time plant p s = ⊥

-- the same of words that run with this sample time, alone or in a loop with the plant
abbrev pub Shows : QuantisedView → Ratio → Option PlantView → Property → Size → Type 0
Shows q time None p s = Has q p s
Shows q time (Some plant) p s = LoopHas q time plant p s

-- The words that the controller becomes have the job's property.
pub record IsShownOf (c : ControllerView) (plant : Option PlantView) (job : CertifiedJob)
    : Type 0 where
  pub quantised : QuantisedView
  pub becomes : BecomesFor c job (Ok quantised)
  pub shows : Shows quantised c.sample_time plant job.property job.size

-- ---- how far outputs are from those of exact runs
-- The offer shows this range at its depth, and in every sample of every run over inputs in range,
-- of any length, the output less that of the exact run of the written equations lies in it.
pub record ShowsError (q : QuantisedView) (offer : RoundoffOffer) (e : ShownError) : Type 0 where
  pub depth : e.depth ≡ offer.depth
  pub shown : error_of (net_of q) offer ≡ Some e.output
  pub near : AlwaysNear q e.output

-- the same where there is an offer; nothing is shown where there is none
abbrev pub ShowsNear : QuantisedView → Option RoundoffOffer → Option ShownError → Type 0
ShowsNear q None None = Unit {0}
ShowsNear q None (Some e) = ⊥
ShowsNear q (Some offer) None = ⊥
ShowsNear q (Some offer) (Some e) = ShowsError q offer e

-- so does the offer of a certificate of a gain; others have none
abbrev pub StaysAsOffered : QuantisedView → Certificate → Option ShownError → Type 0
StaysAsOffered q (certificate.Gain job depth offer) shown = ShowsNear q offer shown
StaysAsOffered q (certificate.Hints job log) shown = ShowsNear q None shown
StaysAsOffered q (certificate.Invariant job candidate logs) shown = ShowsNear q None shown
StaysAsOffered q (certificate.Falls job offer) shown = ShowsNear q None shown
StaysAsOffered q (certificate.Table job coefficients) shown = ShowsNear q None shown

-- The words that the controller becomes stay as the certificate offers.
pub record IsNearOf (c : ControllerView) (cert : Certificate) (shown : Option ShownError)
    : Type 0 where
  pub quantised : QuantisedView
  pub becomes : BecomesFor c (job_of cert) (Ok quantised)
  pub near : StaysAsOffered quantised cert shown
