use Rattle.std.proofs.Common.{◌≡◌, ◌-◌, ◌<◌, true, false, length, None, sym, subst, refl, int_lt, arith}
use Rattle.std.proofs.Math.IntN.{pos}
use Rattle.dsv_algebra.specs.Vectors.{matrix_of}
use Rattle.dsv_forms.specs.declared.offers.Form.{Form}
use Rattle.dsv_forms.specs.declared.offers.KeptAway.{KeptAway}
use Rattle.dsv_forms.specs.Refusals.{kept_away_refusal}
use Rattle.dsv_schur_cohn.specs.Offer.{schur_cohn_form}
use Rattle.dsv_schur_cohn.proofs.Places.{place_accepted, none_negative}
use Rattle.dsv_schur_cohn.proofs.search.place_offer.Goals as goal

pub returns-in_default-clause-negative : goal.returns-in_default-clause-negative
returns-in_default-clause-negative c small h =
    let cs = c.args.poly.now in
    let same = c.order.ensures.same in
    let few = c.order.ensures.few in
    let below : h.0 < length cs - 1 = h.1 in
    none_negative cs h.0 (omega (arith, same, few)) below
    (subst (λ (f : Form). int_lt (matrix_of f.rows h.0 h.0) (pos 0) ≡ false) c.schur_cohn_form-form.ensures.same (c.in_default.ensures h.0 (omega arith) (omega (arith, same, below))))
    h.2

pub returns-clause-negative : goal.returns-clause-negative
returns-clause-negative c small h =
    let cs = c.args.poly.now in
    let same = c.order.ensures.same in
    let few = c.order.ensures.few in
    let there = c.in-Some.ensures in
    let start = c.unit_start.result in
    let own : int_lt (matrix_of (schur_cohn_form cs).rows c.in-Some.i c.in-Some.i) (pos 0) ≡ true =
    subst (λ (f : Form). int_lt (matrix_of f.rows c.in-Some.i c.in-Some.i) (pos 0) ≡ true) c.schur_cohn_form-form.ensures.same there.1 in
    let below = there.0 in
    let accepted : kept_away_refusal cs c.negative_offer.result ≡ None =
    subst (λ (o : KeptAway). kept_away_refusal cs o ≡ None) (sym c.negative_offer.ensures.same)
    (place_accepted cs start c.in-Some.i (omega (arith, same, few)) small (omega (arith, same, below)) own c.unit_start.ensures) in
    rw (c.where_kept_away.ensures.given accepted) refl
