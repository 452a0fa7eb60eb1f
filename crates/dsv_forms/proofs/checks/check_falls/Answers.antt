use Rattle.std.proofs.Common.{◌≡◌, ◌-◌, length, true, [], ap, Some, None, refl, sym, ◌∙◌, arith, rules}
use Rattle.dsv_algebra.specs.Vectors.{vector_of, matrix_of}
use Rattle.dsv_forms.specs.declared.refusal.OfferPart.TheVariants as part
use Rattle.dsv_forms.specs.Refusals.{refusal_of, first_of, is_symmetric, form_tests, definite_tests}
use Rattle.dsv_forms.specs.Sums.{IsFallOrWide}
use Rattle.dsv_forms.proofs.Places.{refusal-err, refusal-ok}
use Rattle.dsv_forms.proofs.FallLemmas.{fall_symmetric}
use Rattle.dsv_forms.proofs.OfferLemmas.{falls_parts, definite_same, definite_at, fall_at, fall_form-definite, falls_along}
use Rattle.dsv_forms.proofs.checks.check_falls.Goals as goal

pub returns-in_err-check_definite-clause-refusal : goal.returns-in_err-check_definite-clause-refusal
returns-in_err-check_definite-clause-refusal c =
    let d = length c.args.poly.now - 1 in
    let offer = c.args.offer.now in
    let P = matrix_of offer.form.rows in
    let e = c.in_err-check_definite.field-0.0 in
    let gone : refusal_of c.from_residual-in_err-check_definite.result ≡ Some e = search rules in
    let places = c.in_ok-check_form.ensures.places in
    let own : offer.form.d ≡ d = omega arith in
    let shape : first_of (form_tests d offer.form) ≡ None = sym c.check_form.ensures.refusal ∙ refusal-ok c.check_form.result c.in_ok-check_form.field-0 c.in_ok-check_form.was in
    let first = definite_at c.check_definite.result (Some e) part.Positive offer.form.d d offer.positive P own c.check_definite.ensures.refusal (refusal-err c.check_definite.result e c.in_err-check_definite.was) in
    gone ∙ sym (falls_parts d (vector_of c.args.poly.now) offer ∙ rw (shape, first) refl)

pub check_definite-requires-2-clause-symmetric : goal.check_definite-requires-2-clause-symmetric
check_definite-requires-2-clause-symmetric c =
    let xs = c.args.poly.now in
    let d = length xs - 1 in
    let fall = c.fall_form-fall.result in
    let w = fall_at c.coefficients.result.now xs c.args.offer.now.form fall c.coefficients.ensures.same c.fall_form-fall.ensures.fall in
    let long = ap length c.coefficients.ensures.same in
    let its : fall.d ≡ d = omega (arith, c.fall_form-fall.ensures.places) in
    rw its (fall_symmetric d (vector_of xs) c.args.offer.now.form fall w)

pub returns-in_err-check_definite-2-clause-refusal : goal.returns-in_err-check_definite-2-clause-refusal
returns-in_err-check_definite-2-clause-refusal c =
    let xs = c.args.poly.now in
    let d = length xs - 1 in
    let offer = c.args.offer.now in
    let P = matrix_of offer.form.rows in
    let fall = c.fall_form-fall.result in
    let e = c.in_err-check_definite-2.field-0.0 in
    let gone : refusal_of c.from_residual-in_err-check_definite-2.result ≡ Some e = search rules in
    let places = c.in_ok-check_form.ensures.places in
    let own : offer.form.d ≡ d = omega arith in
    let long = ap length c.coefficients.ensures.same in
    let its : fall.d ≡ d = omega (arith, c.fall_form-fall.ensures.places) in
    let w = fall_at c.coefficients.result.now xs offer.form fall c.coefficients.ensures.same c.fall_form-fall.ensures.fall in
    let shape : first_of (form_tests d offer.form) ≡ None = sym c.check_form.ensures.refusal ∙ refusal-ok c.check_form.result c.in_ok-check_form.field-0 c.in_ok-check_form.was in
    let first = definite_at c.check_definite.result None part.Positive offer.form.d d offer.positive P own c.check_definite.ensures.refusal (refusal-ok c.check_definite.result c.in_ok-check_definite.field-0 c.in_ok-check_definite.was) in
    let second = definite_at c.check_definite-2.result (Some e) part.Fall fall.d d offer.fall (matrix_of fall.rows) its c.check_definite-2.ensures.refusal (refusal-err c.check_definite-2.result e c.in_err-check_definite-2.was) in
    gone ∙ sym (falls_parts d (vector_of xs) offer ∙ rw (shape, first, ← definite_same part.Fall d offer.fall (vector_of xs) offer.form fall w, second) refl)

-- what an accepted offer has
record Accepted (c : goal.In_ok-check_definite-2) : Type 0 where
  form : is_symmetric (length c.args.poly.now - 1) (matrix_of c.args.offer.now.form.rows) ≡ true
  places : c.fall_form-fall.result.d ≡ length c.args.poly.now - 1
  fall : IsFallOrWide (length c.args.poly.now - 1) (vector_of c.args.poly.now) c.args.offer.now.form c.fall_form-fall.result
  shape : first_of (form_tests (length c.args.poly.now - 1) c.args.offer.now.form) ≡ None
  first : first_of (definite_tests part.Positive (length c.args.poly.now - 1) c.args.offer.now.positive (matrix_of c.args.offer.now.form.rows) (λ i j. [])) ≡ None
  second : first_of (definite_tests part.Fall (length c.args.poly.now - 1) c.args.offer.now.fall (matrix_of c.fall_form-fall.result.rows) (λ i j. [])) ≡ None

accepted : (c : goal.In_ok-check_definite-2) → Accepted c
accepted c =
    let xs = c.args.poly.now in
    let d = length xs - 1 in
    let offer = c.args.offer.now in
    let fall = c.fall_form-fall.result in
    let places = c.in_ok-check_form.ensures.places in
    let own : offer.form.d ≡ d = omega arith in
    let long = ap length c.coefficients.ensures.same in
    let its : fall.d ≡ d = omega (arith, c.fall_form-fall.ensures.places) in
    record {
      form = ap (λ k. is_symmetric k (matrix_of offer.form.rows)) (sym own) ∙ c.in_ok-check_form.ensures.symmetric;
      places = its;
      fall = fall_at c.coefficients.result.now xs offer.form fall c.coefficients.ensures.same c.fall_form-fall.ensures.fall;
      shape = sym c.check_form.ensures.refusal ∙ refusal-ok c.check_form.result c.in_ok-check_form.field-0 c.in_ok-check_form.was;
      first = definite_at c.check_definite.result None part.Positive offer.form.d d offer.positive (matrix_of offer.form.rows) own c.check_definite.ensures.refusal
          (refusal-ok c.check_definite.result c.in_ok-check_definite.field-0 c.in_ok-check_definite.was);
      second = definite_at c.check_definite-2.result None part.Fall fall.d d offer.fall (matrix_of fall.rows) its c.check_definite-2.ensures.refusal
          (refusal-ok c.check_definite-2.result c.in_ok-check_definite-2.field-0 c.in_ok-check_definite-2.was);
    }

pub returns-clause-refusal : goal.returns-clause-refusal
returns-clause-refusal c =
    let a = accepted c in
    let d = length c.args.poly.now - 1 in
    let offer = c.args.offer.now in
    sym (falls_parts d (vector_of c.args.poly.now) offer
    ∙ rw (a.shape, a.first, ← definite_same part.Fall d offer.fall (vector_of c.args.poly.now) offer.form c.fall_form-fall.result a.fall, a.second) refl)

pub returns-clause-fall : goal.returns-clause-fall
returns-clause-fall c =
    let a = accepted c in
    fall_form-definite part.Fall (length c.args.poly.now - 1) c.args.offer.now.fall (vector_of c.args.poly.now) c.args.offer.now.form c.fall_form-fall.result a.places a.form a.fall a.second

pub returns-clause-falls : goal.returns-clause-falls
returns-clause-falls c =
    let a = accepted c in
    let d = length c.args.poly.now - 1 in
    let fall = c.fall_form-fall.result in
    falls_along d (vector_of c.args.poly.now) c.args.offer.now.form fall c.args.offer.now.positive c.args.offer.now.fall a.form
    (fall_symmetric d (vector_of c.args.poly.now) c.args.offer.now.form fall a.fall)
    (fall_form-definite part.Fall d c.args.offer.now.fall (vector_of c.args.poly.now) c.args.offer.now.form fall a.places a.form a.fall a.second) a.first a.second
