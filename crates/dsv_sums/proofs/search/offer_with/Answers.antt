use Rattle.std.proofs.Common.{◌≡◌, ◌-◌, length, true, sym, ap, ◌∙◌, subst, arith}
use Rattle.dsv_algebra.specs.Vectors.{vector_of, matrix_of}
use Rattle.dsv_forms.specs.Refusals.{is_symmetric}
use Rattle.dsv_sums.specs.Elimination.{elimination}
use Rattle.dsv_sums.specs.Partial.{AreRefused}
use Rattle.dsv_forms.proofs.FallLemmas.{fall_symmetric}
use Rattle.dsv_forms.proofs.OfferLemmas.{fall_at}
use Rattle.dsv_sums.proofs.Acceptance.{positive_refused, fall_refused, offered}
use Rattle.dsv_sums.proofs.search.offer_with.Goals as goal

pub is_symmetric-requires : goal.is_symmetric-requires
is_symmetric-requires c =
    let few = c.coefficients-c.ensures.poly.few in
    let long = ap length c.coefficients-c.ensures.same in
    let same = c.requires in
    omega arith

pub squares_of-requires-clause-places : goal.squares_of-requires-clause-places
squares_of-requires-clause-places c =
    let few = c.coefficients-c.ensures.poly.few in
    let long = ap length c.coefficients-c.ensures.same in
    let same = c.requires in
    omega arith

pub returns-in_err-positive-clause-same : goal.returns-in_err-positive-clause-same
returns-in_err-positive-clause-same c =
    let P = matrix_of c.args.form.now.rows in
    let lost = rw c.in_err-positive.was at c.squares_of.ensures in
    c.from_residual.ensures
    ∙ positive_refused c.args.poly.now c.args.form.now (subst (λ n. AreRefused n P) c.requires lost)

pub squares_of-requires-2-clause-symmetric : goal.squares_of-requires-2-clause-symmetric
squares_of-requires-2-clause-symmetric c =
    let xs = c.args.poly.now in
    let d = length xs - 1 in
    let form = c.args.form.now in
    let loss = c.fall_form-loss.result in
    let w = fall_at c.coefficients-c.result.now xs form loss c.coefficients-c.ensures.same c.fall_form-loss.ensures.fall in
    let long = ap length c.coefficients-c.ensures.same in
    let its : loss.d ≡ d = omega (arith, c.fall_form-loss.ensures.places) in
    rw its (fall_symmetric d (vector_of xs) form loss w)

pub returns-in_err-fall-clause-same : goal.returns-in_err-fall-clause-same
returns-in_err-fall-clause-same c =
    let xs = c.args.poly.now in
    let d = length xs - 1 in
    let form = c.args.form.now in
    let loss = c.fall_form-loss.result in
    let w = fall_at c.coefficients-c.result.now xs form loss c.coefficients-c.ensures.same c.fall_form-loss.ensures.fall in
    let long = ap length c.coefficients-c.ensures.same in
    let its : loss.d ≡ d = omega (arith, c.fall_form-loss.ensures.places) in
    let symmetric : is_symmetric d (matrix_of form.rows) ≡ true = ap (λ n. is_symmetric n (matrix_of form.rows)) (sym c.requires) ∙ sym c.if-not-is_symmetric.ensures in
    let lost = rw c.in_err-fall.was at c.squares_of-2.ensures in
    c.from_residual-in_err-fall.ensures
    ∙ fall_refused xs form loss symmetric w (subst (λ n. AreRefused n (matrix_of loss.rows)) its lost)

pub returns-clause-same : goal.returns-clause-same
returns-clause-same c =
    let xs = c.args.poly.now in
    let d = length xs - 1 in
    let form = c.args.form.now in
    let loss = c.fall_form-loss.result in
    let w = fall_at c.coefficients-c.result.now xs form loss c.coefficients-c.ensures.same c.fall_form-loss.ensures.fall in
    let long = ap length c.coefficients-c.ensures.same in
    let its : loss.d ≡ d = omega (arith, c.fall_form-loss.ensures.places) in
    let symmetric : is_symmetric d (matrix_of form.rows) ≡ true = ap (λ n. is_symmetric n (matrix_of form.rows)) (sym c.requires) ∙ sym c.if-not-is_symmetric.ensures in
    let first = rw c.in_ok-positive.was at c.squares_of.ensures in
    let second = rw c.in_ok-fall.was at c.squares_of-2.ensures in
    c.where_accepted.ensures.same
    ∙ offered xs form loss c.in_ok-positive.positive c.in_ok-fall.fall symmetric w
    (ap (λ n. elimination n (matrix_of form.rows)) (sym c.requires) ∙ first)
    (ap (λ n. elimination n (matrix_of loss.rows)) (sym its) ∙ second)
