-- What an ellipsoid that is accepted shows of a controller.
use Rattle.std.specs.Prelude.{◌≡◌, None}
use Rattle.dsv_quantiser.specs.QuantisedView.{QuantisedView}
use Rattle.dsv_certfile.specs.declared.ellipsoid.Ellipsoid.{Ellipsoid}
use Rattle.dsv_ellipsoid.specs.Good.{IsGood, NeverBreaks, StaysKept}
use Rattle.dsv_ellipsoid.specs.Refusals.{ellipsoid_refusal}

-- Its check accepts the ellipsoid, which is good, and so no list of inputs in range, of any length,
-- breaks the controller, and each exact value of each sample lies in its interval.
pub record ShowsEllipsoid (q : QuantisedView) (offer : Ellipsoid) : Type 0 where
  pub accepted : ellipsoid_refusal q offer ≡ None
  pub good : IsGood q offer
  pub never : NeverBreaks q
  pub kept : StaysKept q offer
