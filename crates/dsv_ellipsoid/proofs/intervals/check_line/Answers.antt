use Rattle.std.proofs.Common.{◌≡◌, true, Some, None, sym, ap, ◌∙◌, rules}
use Rattle.dsv_forms.specs.Refusals.{refusal_of}
use Rattle.dsv_ellipsoid.specs.Walks.{products, refusal_then}
use Rattle.dsv_forms.proofs.Places.{refusal-err, refusal-ok}
use Rattle.dsv_ellipsoid.proofs.WalkLemmas.{first_refused, row_walked, last_row}
use Rattle.dsv_ellipsoid.proofs.intervals.check_line.Goals as goal

pub returns-in_err-first : goal.returns-in_err-first
returns-in_err-first c =
    let e = c.in_err-first.field-0.0 in
    let gone : refusal_of c.from_residual.result ≡ Some e = search rules in
    gone ∙ sym (first_refused c.args.format.now c.args.forward.now c.args.feedback.now c.args.inputs.now c.args.outputs.now c.first_walk.result e c.requires.some c.in_err-first.was c.first_walk.ensures.refusal)

pub returns-in_err-walk : goal.returns-in_err-walk
returns-in_err-walk c =
    let f = c.args.format.now in
    let e = c.in_err-walk.field-0.0 in
    let gone : refusal_of c.from_residual-in_err-walk.result ≡ Some e = search rules in
    let row = rw c.rest_of.ensures at c.walk_products.ensures.walked in
    gone ∙ sym (row_walked f c.args.forward.now c.args.feedback.now c.args.inputs.now c.args.outputs.now c.first_walk.result c.in_ok-first.first c.walk_products.result c.requires.some c.in_ok-first.was c.first_walk.ensures.refusal c.in_ok-first.ensures.next row
    ∙ ap (λ r. refusal_then f r (products true c.args.feedback.now c.args.outputs.now)) c.in_err-walk.was)

pub returns-in_err-walk_products : goal.returns-in_err-walk_products
returns-in_err-walk_products c =
    let f = c.args.format.now in
    let e = c.in_err-walk_products.field-0.0 in
    let gone : refusal_of c.from_residual-in_err-walk_products.result ≡ Some e = search rules in
    let row = rw c.rest_of.ensures at c.walk_products.ensures.walked in
    let ps = products true c.args.feedback.now c.args.outputs.now in
    gone ∙ sym (row_walked f c.args.forward.now c.args.feedback.now c.args.inputs.now c.args.outputs.now c.first_walk.result c.in_ok-first.first c.walk_products.result c.requires.some c.in_ok-first.was c.first_walk.ensures.refusal c.in_ok-first.ensures.next row
    ∙ ap (λ r. refusal_then f r ps) c.in_ok-walk.was
    ∙ last_row f ps c.in_ok-walk.walk c.walk_products-2.result (Some e) c.walk_products-2.ensures.walked (refusal-err c.walk_products-2.result e c.in_err-walk_products.was))

pub returns : goal.returns
returns c =
    let f = c.args.format.now in
    let row = rw c.rest_of.ensures at c.walk_products.ensures.walked in
    let ps = products true c.args.feedback.now c.args.outputs.now in
    sym (row_walked f c.args.forward.now c.args.feedback.now c.args.inputs.now c.args.outputs.now c.first_walk.result c.in_ok-first.first c.walk_products.result c.requires.some c.in_ok-first.was c.first_walk.ensures.refusal c.in_ok-first.ensures.next row
    ∙ ap (λ r. refusal_then f r ps) c.in_ok-walk.was
    ∙ last_row f ps c.in_ok-walk.walk c.walk_products-2.result None c.walk_products-2.ensures.walked (refusal-ok c.walk_products-2.result c.in_ok-walk_products.field-0 c.in_ok-walk_products.was))
