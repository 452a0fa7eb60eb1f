-- For private contracts: what an offer shows before it is known that nothing overflows.
use Rattle.std.specs.Prelude.{◌≡◌, Option, Some, None, Result, Ok, Err}
use Rattle.dsv_quantiser.specs.QuantisedView.{QuantisedView}
use Rattle.dsv_realise.specs.Netlists.{net_of}
use Rattle.dsv_roundoff.specs.declared.offers.RoundoffOffer.{RoundoffOffer}
use Rattle.dsv_gain.specs.Errors.{error_of}
use Rattle.dsv_gain.specs.Near.{StaysNear}
use Rattle.dsv_gain.specs.declared.roundoff.ShownError.{ShownError}
use Rattle.dsv_certcheck.specs.Checks.{Checked}
use Rattle.dsv_certcheck.specs.declared.check_refusal.CheckRefusal.{CheckRefusal}

-- The offer shows this range at its depth, and the output stays in it while no value leaves the
-- words.
pub record ShowsWhileInside (q : QuantisedView) (offer : RoundoffOffer) (e : ShownError)
    : Type 0 where
  pub depth : e.depth ≡ offer.depth
  pub shown : error_of (net_of q) offer ≡ Some e.output
  pub near : StaysNear q e.output

abbrev pub StaysShown : QuantisedView → Option RoundoffOffer → Option ShownError → Type 0
StaysShown q None None = Unit {0}
StaysShown q None (Some e) = ⊥
StaysShown q (Some offer) None = ⊥
StaysShown q (Some offer) (Some e) = ShowsWhileInside q offer e

-- a check that shows nothing of the output's error
abbrev pub without_error : Checked → Result (Option ShownError) CheckRefusal
without_error (Ok x) = Ok None
without_error (Err why) = Err why
