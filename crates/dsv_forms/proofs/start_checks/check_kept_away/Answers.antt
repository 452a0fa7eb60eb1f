use Rattle.std.proofs.Common.{◌≡◌, ◌-◌, length, true, [], pos, ap, Some, None, refl, sym, ◌∙◌, arith, rules}
use Rattle.std.proofs.lemmas.Int.{to_z-of_z}
use lib.Signed.{◌<ℤ◌}
use mir.Syntax.{w128}
use mir.Val.{SFits}
use Rattle.dsv_algebra.specs.Vectors.{vector_of, matrix_of}
use Rattle.dsv_forms.specs.declared.refusal.OfferPart.TheVariants as part
use Rattle.dsv_forms.specs.Refusals.{refusal_of, first_of, is_symmetric, form_tests, semidefinite_tests, start_tests}
use Rattle.dsv_forms.specs.Sums.{IsFallOrWide, sum_from, value_summands, value_refusal}
use Rattle.dsv_forms.proofs.Places.{refusal-err, refusal-ok}
use Rattle.dsv_forms.proofs.FallLemmas.{fall_symmetric}
use Rattle.dsv_forms.proofs.Values.{start_tests-are, value_had}
use Rattle.dsv_forms.proofs.OfferLemmas.{kept_away_parts, semidefinite_same, semidefinite_at, fall_at, fall_form-semidefinite, kept_away_along}
use Rattle.dsv_forms.proofs.start_checks.check_kept_away.Goals as goal

pub check_semidefinite-requires-clause-symmetric : goal.check_semidefinite-requires-clause-symmetric
check_semidefinite-requires-clause-symmetric c =
    let xs = c.args.poly.now in
    let d = length xs - 1 in
    let fall = c.fall_form-fall.result in
    let w = fall_at c.coefficients.result.now xs c.args.offer.now.form fall c.coefficients.ensures.same c.fall_form-fall.ensures.fall in
    let long = ap length c.coefficients.ensures.same in
    let its : fall.d ≡ d = omega (arith, c.fall_form-fall.ensures.places) in
    rw its (fall_symmetric d (vector_of xs) c.args.offer.now.form fall w)

pub returns-in_err-check_semidefinite-clause-refusal : goal.returns-in_err-check_semidefinite-clause-refusal
returns-in_err-check_semidefinite-clause-refusal c =
    let xs = c.args.poly.now in
    let d = length xs - 1 in
    let offer = c.args.offer.now in
    let fall = c.fall_form-fall.result in
    let e = c.in_err-check_semidefinite.field-0.0 in
    let gone : refusal_of c.from_residual-in_err-check_semidefinite.result ≡ Some e = search rules in
    let long = ap length c.coefficients.ensures.same in
    let its : fall.d ≡ d = omega (arith, c.fall_form-fall.ensures.places) in
    let w = fall_at c.coefficients.result.now xs offer.form fall c.coefficients.ensures.same c.fall_form-fall.ensures.fall in
    let shape : first_of (form_tests d offer.form) ≡ None = sym c.check_form.ensures.refusal ∙ refusal-ok c.check_form.result c.in_ok-check_form.field-0 c.in_ok-check_form.was in
    let first = semidefinite_at c.check_semidefinite.result (Some e) part.Fall fall.d d offer.fall (matrix_of fall.rows) its c.check_semidefinite.ensures.refusal
    (refusal-err c.check_semidefinite.result e c.in_err-check_semidefinite.was) in
    gone ∙ sym (kept_away_parts d (vector_of xs) offer ∙ rw (shape, ← semidefinite_same part.Fall d offer.fall (vector_of xs) offer.form fall w, first) refl)

pub returns-in_err-value-clause-refusal : goal.returns-in_err-value-clause-refusal
returns-in_err-value-clause-refusal c =
    let xs = c.args.poly.now in
    let d = length xs - 1 in
    let offer = c.args.offer.now in
    let P = matrix_of offer.form.rows in
    let v = vector_of offer.start in
    let fall = c.fall_form-fall.result in
    let e = c.in_err-value.field-0.0 in
    let gone : refusal_of c.from_residual-in_err-value.result ≡ Some e = search rules in
    let places = c.in_ok-check_form.ensures.places in
    let own : offer.form.d ≡ d = omega arith in
    let long = ap length c.coefficients.ensures.same in
    let its : fall.d ≡ d = omega (arith, c.fall_form-fall.ensures.places) in
    let w = fall_at c.coefficients.result.now xs offer.form fall c.coefficients.ensures.same c.fall_form-fall.ensures.fall in
    let shape : first_of (form_tests d offer.form) ≡ None = sym c.check_form.ensures.refusal ∙ refusal-ok c.check_form.result c.in_ok-check_form.field-0 c.in_ok-check_form.was in
    let first = semidefinite_at c.check_semidefinite.result None part.Fall fall.d d offer.fall (matrix_of fall.rows) its c.check_semidefinite.ensures.refusal
    (refusal-ok c.check_semidefinite.result c.in_ok-check_semidefinite.field-0 c.in_ok-check_semidefinite.was) in
    let start : first_of (start_tests d P v) ≡ Some e =
    start_tests-are d P v ∙ ap (λ k. value_refusal (sum_from (pos 0) (value_summands k P v))) (sym own) ∙ ap value_refusal (sym c.value_at.ensures)
    ∙ sym c.check_value.ensures.refusal ∙ refusal-err c.check_value.result e c.in_err-value.was in
    gone ∙ sym (kept_away_parts d (vector_of xs) offer ∙ rw (shape, ← semidefinite_same part.Fall d offer.fall (vector_of xs) offer.form fall w, first, start) refl)

-- what an accepted offer has
record Accepted (c : goal.After-get) : Type 0 where
  form : is_symmetric (length c.args.poly.now - 1) (matrix_of c.args.offer.now.form.rows) ≡ true
  places : c.fall_form-fall.result.d ≡ length c.args.poly.now - 1
  fall : IsFallOrWide (length c.args.poly.now - 1) (vector_of c.args.poly.now) c.args.offer.now.form c.fall_form-fall.result
  shape : first_of (form_tests (length c.args.poly.now - 1) c.args.offer.now.form) ≡ None
  first : first_of (semidefinite_tests part.Fall (length c.args.poly.now - 1) c.args.offer.now.fall (matrix_of c.fall_form-fall.result.rows) (λ i j. [])) ≡ None
  start : first_of (start_tests (length c.args.poly.now - 1) (matrix_of c.args.offer.now.form.rows) (vector_of c.args.offer.now.start)) ≡ None
  value : sum_from (pos 0) (value_summands (length c.args.poly.now - 1) (matrix_of c.args.offer.now.form.rows) (vector_of c.args.offer.now.start)) ≡ Some c.in_ok-value.value

accepted : (c : goal.After-get) → Accepted c
accepted c =
    let xs = c.args.poly.now in
    let d = length xs - 1 in
    let offer = c.args.offer.now in
    let P = matrix_of offer.form.rows in
    let v = vector_of offer.start in
    let fall = c.fall_form-fall.result in
    let places = c.in_ok-check_form.ensures.places in
    let own : offer.form.d ≡ d = omega arith in
    let long = ap length c.coefficients.ensures.same in
    let its : fall.d ≡ d = omega (arith, c.fall_form-fall.ensures.places) in
    record {
      form = ap (λ k. is_symmetric k P) (sym own) ∙ c.in_ok-check_form.ensures.symmetric;
      places = its;
      fall = fall_at c.coefficients.result.now xs offer.form fall c.coefficients.ensures.same c.fall_form-fall.ensures.fall;
      shape = sym c.check_form.ensures.refusal ∙ refusal-ok c.check_form.result c.in_ok-check_form.field-0 c.in_ok-check_form.was;
      first = semidefinite_at c.check_semidefinite.result None part.Fall fall.d d offer.fall (matrix_of fall.rows) its c.check_semidefinite.ensures.refusal
          (refusal-ok c.check_semidefinite.result c.in_ok-check_semidefinite.field-0 c.in_ok-check_semidefinite.was);
      start = start_tests-are d P v ∙ ap (λ k. value_refusal (sum_from (pos 0) (value_summands k P v))) (sym own) ∙ ap value_refusal (sym c.value_at.ensures)
          ∙ sym c.check_value.ensures.refusal ∙ refusal-ok c.check_value.result c.in_ok-value.value c.in_ok-value.was;
      value = ap (λ k. sum_from (pos 0) (value_summands k P v)) (sym own) ∙ sym c.value_at.ensures ∙ c.in_ok-value.ensures.value;
    }

pub returns-clause-refusal : goal.returns-clause-refusal
returns-clause-refusal c =
    let a = accepted c in
    let d = length c.args.poly.now - 1 in
    let offer = c.args.offer.now in
    sym (kept_away_parts d (vector_of c.args.poly.now) offer
    ∙ rw (a.shape, ← semidefinite_same part.Fall d offer.fall (vector_of c.args.poly.now) offer.form c.fall_form-fall.result a.fall, a.first, a.start) refl)

pub returns-clause-fall : goal.returns-clause-fall
returns-clause-fall c =
    let a = accepted c in
    fall_form-semidefinite part.Fall (length c.args.poly.now - 1) c.args.offer.now.fall (vector_of c.args.poly.now) c.args.offer.now.form c.fall_form-fall.result a.places a.form a.fall a.first

pub returns-clause-value : goal.returns-clause-value
returns-clause-value c =
    let fits : SFits w128 c.get.result = search rules in
    to_z-of_z w128 c.get.result fits ∙ c.get.ensures ∙ value_had (length c.args.poly.now - 1) (matrix_of c.args.offer.now.form.rows) (vector_of c.args.offer.now.start) c.in_ok-value.value (accepted c).value

pub returns-clause-away : goal.returns-clause-away
returns-clause-away c =
    let a = accepted c in
    let xs = c.args.poly.now in
    let d = length xs - 1 in
    let offer = c.args.offer.now in
    let fall = c.fall_form-fall.result in
    let first : pos 0 <ℤ vector_of xs 0 = rw c.coefficients.ensures.same at c.coefficients.ensures.poly.first in
    kept_away_along d (vector_of xs) offer.form fall offer.fall (vector_of offer.start) first
    (fall_symmetric d (vector_of xs) offer.form fall a.fall)
    (fall_form-semidefinite part.Fall d offer.fall (vector_of xs) offer.form fall a.places a.form a.fall a.first) a.first a.start
