use Rattle.std.proofs.Common.{◌≡◌, List, Option, Some, None}
use Rattle.std.specs.Prelude.{IfSome}
use Rattle.std.proofs.Math.IntN.{ℤ}
use Rattle.dsv_forms.specs.declared.offers.FormOffer.{FormOffer}
use Rattle.dsv_forms.specs.Poly.{IsPoly}
use Rattle.dsv_closed_forms.specs.ClosedForm.{closed_form_of, IsAccepted}
use Rattle.dsv_closed_forms.proofs.Accepted.{closed_form_accepted}
use Rattle.dsv_closed_forms.proofs.choice.closed_form.Goals as goal

accepted : (cs : List ℤ) (found : Option FormOffer) → IsPoly cs → closed_form_of cs ≡ found → IfSome found (λ offer. IsAccepted cs offer)
accepted cs (Some offer) poly h = closed_form_accepted cs offer poly h
accepted cs None poly h = tt

pub returns-clause-accepted : goal.returns-clause-accepted
returns-clause-accepted c =
    let same = c.coefficients.ensures.same in
    accepted c.args.poly.now c.offer_of.result (rw same at c.coefficients.ensures.poly) (rw same at c.offer_of.ensures)
