-- What the file of an ellipsoid has, and what its check comes to, or the search for one.
use Rattle.std.specs.Prelude.{◌≡◌, Some, Ok, Err}
use Rattle.dsv_quantiser.specs.QuantisedView.{QuantisedView}
use Rattle.dsv_bounded.specs.RunAnswers.{IsTooLarge}
use Rattle.dsv_bounded.specs.RunQuestions.{IsWithin}
use Rattle.dsv_invariant.specs.Limits.{unbounded_samples}
use Rattle.dsv_certfile.specs.declared.ellipsoid.Ellipsoid.{Ellipsoid}
use Rattle.dsv_ellipsoid.specs.Refusals.{ellipsoid_refusal}
use Rattle.dsv_report.specs.declared.answers.Answer.TheVariants as answer
use Rattle.dsv_report.specs.declared.stop.Stop.TheVariants as stop
use Rattle.dsv_report.specs.Stops.{Outcome}
use Rattle.dsv_realise.specs.Controllers.{of_controller}
use Rattle.dsv_ellipsoid.specs.Shown.{ShowsEllipsoid}

-- ---- what an ellipsoid shows
-- the answer for an ellipsoid that is offered
abbrev pub IsOfOffer : Ellipsoid → QuantisedView → Outcome → Type 0
IsOfOffer offer q (Ok (answer.InEllipsoid found)) =
    (found ≡ offer) × IsWithin (of_controller q) unbounded_samples × ShowsEllipsoid q offer
IsOfOffer offer q (Err (stop.EllipsoidRefused r)) =
    IsWithin (of_controller q) unbounded_samples × (ellipsoid_refusal q offer ≡ Some r)
IsOfOffer offer q (Err (stop.JobSize size)) = IsTooLarge unbounded_samples (of_controller q) size
IsOfOffer offer q other = ⊥

-- the answer where one is to be found; that none was found says nothing of the controller
abbrev pub IsOfSoughtEllipsoid : QuantisedView → Outcome → Type 0
IsOfSoughtEllipsoid q (Ok (answer.FoundEllipsoid offer)) =
    IsWithin (of_controller q) unbounded_samples × ShowsEllipsoid q offer
IsOfSoughtEllipsoid q (Ok answer.NoEllipsoid) = IsWithin (of_controller q) unbounded_samples
IsOfSoughtEllipsoid q (Err (stop.JobSize size)) =
    IsTooLarge unbounded_samples (of_controller q) size
IsOfSoughtEllipsoid q other = ⊥
