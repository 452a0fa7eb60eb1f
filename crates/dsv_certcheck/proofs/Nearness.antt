-- An offer that is accepted holds how far outputs are from those of exact runs, if a gain's ranges hold.
use Rattle.std.proofs.Common.{◌≡◌, List, Option, Some, None, Result, Ok, Err, OnOk, IfOk, sym, subst, refl}
use Rattle.dsv_quantiser.specs.QuantisedView.{QuantisedView}
use Rattle.dsv_linear.specs.declared.range.Range.{Range}
use Rattle.dsv_roundoff.specs.declared.offers.RoundoffOffer.{RoundoffOffer}
use Rattle.dsv_gain.specs.Safe.{IfSafe}
use Rattle.dsv_network.specs.declared.outlook.Gain.{Gain}
use Rattle.dsv_network.specs.declared.outlook.Outlook.{Outlook}
use Rattle.dsv_network.specs.declared.outlook.Outlook.TheVariants as outlook
use Rattle.dsv_gain.proofs.Near.{always_near}
use Rattle.dsv_gain.specs.declared.roundoff.ShownError.{ShownError}
use Rattle.dsv_certcheck.specs.Checks.{Checked, Finds, as_checked}
use Rattle.dsv_certcheck.specs.Shown.{ShowsNear, StaysAsOffered}
use Rattle.dsv_certfile.specs.declared.certificate.Certificate.{Certificate}
use Rattle.dsv_certcheck.specs.ShownErrors.{StaysShown, without_error}
use Rattle.dsv_certcheck.specs.declared.check_refusal.CheckRefusal.{CheckRefusal}
use Rattle.dsv_gain.specs.Subjects.{HoldsAlways}
use Rattle.dsv_realise.specs.Controllers.{of_controller}

-- ---- beside a gain that was found
shows_near : (q : QuantisedView) (ranges : List Range) (offer : Option RoundoffOffer) (shown : Option ShownError) → HoldsAlways (of_controller q) ranges → StaysShown q offer shown → ShowsNear q offer shown
shows_near q ranges None None h e = tt
shows_near q ranges None (Some r) h e = e
shows_near q ranges (Some offer) None h e = e
shows_near q ranges (Some offer) (Some r) h e = record { depth = e.depth; shown = e.shown; near = always_near q ranges r.output h e.near }

found_near : (q : QuantisedView) (ranges : List Range) (offer : Option RoundoffOffer) (found : Result (Option ShownError) CheckRefusal) → HoldsAlways (of_controller q) ranges → IfOk found (StaysShown q offer) → IfOk found (ShowsNear q offer)
found_near q ranges offer (Ok shown) h e = shows_near q ranges offer shown h e
found_near q ranges offer (Err why) h e = tt

held : (q : QuantisedView) (found : Outlook) (gain : Gain) → found ≡ outlook.Safe gain → IfSafe found (λ g. HoldsAlways (of_controller q) g.ranges) → HoldsAlways (of_controller q) gain.ranges
held q found gain e h = rw e at h

pub near_beside : (q : QuantisedView) (o : Outlook) (gain : Gain) (offer : Option RoundoffOffer) (found : Result (Option ShownError) CheckRefusal) → o ≡ outlook.Safe gain
    → IfSafe o (λ g. HoldsAlways (of_controller q) g.ranges) → IfOk found (StaysShown q offer) → IfOk found (ShowsNear q offer)
near_beside q o gain offer found e h = found_near q gain.ranges offer found (held q o gain e h)

-- ---- checks that show nothing of it
pub same_found : (found : Checked) → as_checked (without_error found) ≡ found
same_found (Ok x) = refl
same_found (Err why) = refl

pub found_without : (found meant : Checked) → Finds found meant → Finds (as_checked (without_error found)) meant
found_without found meant = subst (λ r. Finds r meant) (sym (same_found found))

pub shown_without : (P : Type 0) (found : Checked) → OnOk found P → OnOk (without_error found) P
shown_without P (Ok x) h = h
shown_without P (Err why) h = tt

pub none_without : (q : QuantisedView) (found : Checked) → IfOk (without_error found) (ShowsNear q None)
none_without q (Ok x) = tt
none_without q (Err why) = tt

pub near_without : (q : QuantisedView) (cert : Certificate) (found : Checked) → OnOk found (StaysAsOffered q cert None) → IfOk (without_error found) (StaysAsOffered q cert)
near_without q cert (Ok x) h = h
near_without q cert (Err why) h = tt

-- these together, for the functions that check what has no offer
pub ruleset without_errors = (found_without, shown_without, none_without, near_without)
