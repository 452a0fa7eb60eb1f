use Rattle.std.proofs.Common.{◌≡◌, ◌≤◌, ◌↔◌, List, length, None, refl, sym, subst}
use Rattle.std.proofs.Math.IntN.{ℤ}
use Rattle.dsv_forms.specs.declared.offers.KeptAway.{KeptAway}
use Rattle.dsv_forms.specs.Poly.{most_coefficients}
use Rattle.dsv_forms.specs.Refusals.{kept_away_refusal}
use Rattle.dsv_schur_cohn.specs.Offer.{negative_offer, HasNarrowNumbers, IsNegativeAt}
use Rattle.dsv_schur_cohn.proofs.Exact.{accepted_where_narrow}
use Rattle.dsv_schur_cohn.proofs.offer.negative_offer.Goals as goal

accepted_by : (cs start : List ℤ) (offer : KeptAway) → offer ≡ negative_offer cs start → length cs ≤ most_coefficients
    → 2 ≤ length cs → (kept_away_refusal cs offer ≡ None ↔ (HasNarrowNumbers cs start × IsNegativeAt cs start))
accepted_by cs start offer e few some =
    subst (λ (o : KeptAway). kept_away_refusal cs o ≡ None ↔ (HasNarrowNumbers cs start × IsNegativeAt cs start)) (sym e) (accepted_where_narrow cs start some few)

pub returns-clause-accepted : goal.returns-clause-accepted
returns-clause-accepted c =
    let cs = c.args.poly.now in
    let start = c.args.start.now in
    let offer : KeptAway = record { form = c.schur_cohn_form.result; start = start; fall = c.lost_square.result } in
    let e : offer ≡ negative_offer cs start = rw (c.schur_cohn_form.ensures.same, c.lost_square.ensures, c.coefficients.ensures.same) refl in
    let few : length cs ≤ most_coefficients = rw c.coefficients.ensures.same at c.coefficients.ensures.poly.few in
    accepted_by cs start offer e few
