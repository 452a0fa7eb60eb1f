use Rattle.std.proofs.Common.{◌≡◌, true, [], ap, Some, None, refl, sym, ◌∙◌, rules}
use Rattle.dsv_algebra.specs.Vectors.{matrix_of}
use Rattle.dsv_forms.specs.declared.refusal.OfferPart.TheVariants as part
use Rattle.dsv_forms.specs.Refusals.{refusal_of, first_of, is_symmetric, form_tests, definite_tests}
use Rattle.dsv_forms.proofs.Places.{refusal-err, refusal-ok}
use Rattle.dsv_forms.proofs.OfferLemmas.{definite_at}
use Rattle.dsv_state_space.specs.StateForms.{one_of, loss_tests}
use Rattle.dsv_state_space.specs.StateView.{states}
use Rattle.dsv_state_space.proofs.LossLemmas.{early_parts, late_parts, loss_symmetric, loss_falls}
use Rattle.dsv_state_space.proofs.falls.check_state_falls.Goals as goal

pub returns-in_err-check_definite-clause-refusal : goal.returns-in_err-check_definite-clause-refusal
returns-in_err-check_definite-clause-refusal c =
    let s = c.args.system.now in
    let d = states s in
    let offer = c.args.offer.now in
    let P = matrix_of offer.form.rows in
    let e = c.in_err-check_definite.field-0.0 in
    let gone : refusal_of c.from_residual-in_err-check_definite.result ≡ Some e = search rules in
    let own : offer.form.d ≡ d = c.in_ok-check_form.ensures.places in
    let shape : first_of (form_tests d offer.form) ≡ None = sym c.check_form.ensures.refusal ∙ refusal-ok c.check_form.result c.in_ok-check_form.field-0 c.in_ok-check_form.was in
    let first = definite_at c.check_definite.result (Some e) part.Positive offer.form.d d offer.positive P own c.check_definite.ensures.refusal (refusal-err c.check_definite.result e c.in_err-check_definite.was) in
    gone ∙ sym (early_parts d (one_of s) (matrix_of s.a) offer ∙ rw (shape, first) refl)

pub returns-in_err-loss-clause-refusal : goal.returns-in_err-loss-clause-refusal
returns-in_err-loss-clause-refusal c =
    let s = c.args.system.now in
    let d = states s in
    let offer = c.args.offer.now in
    let P = matrix_of offer.form.rows in
    let e = c.in_err-loss.field-0.0 in
    let gone : refusal_of c.from_residual-in_err-loss.result ≡ Some e = search rules in
    let own : offer.form.d ≡ d = c.in_ok-check_form.ensures.places in
    let shape : first_of (form_tests d offer.form) ≡ None = sym c.check_form.ensures.refusal ∙ refusal-ok c.check_form.result c.in_ok-check_form.field-0 c.in_ok-check_form.was in
    let first = definite_at c.check_definite.result None part.Positive offer.form.d d offer.positive P own c.check_definite.ensures.refusal (refusal-ok c.check_definite.result c.in_ok-check_definite.field-0 c.in_ok-check_definite.was) in
    let wide : first_of (loss_tests d (one_of s) (matrix_of s.a) P) ≡ Some e = sym c.loss_form.ensures.refusal ∙ refusal-err c.loss_form.result e c.in_err-loss.was in
    gone ∙ sym (early_parts d (one_of s) (matrix_of s.a) offer ∙ rw (shape, first, wide) refl)

pub check_definite-requires-2-clause-symmetric : goal.check_definite-requires-2-clause-symmetric
check_definite-requires-2-clause-symmetric c =
    let s = c.args.system.now in
    let offer = c.args.offer.now in
    let w = c.in_ok-loss.ensures.loss in
    let form = ap (λ k. is_symmetric k (matrix_of offer.form.rows)) (sym c.in_ok-check_form.ensures.places) ∙ c.in_ok-check_form.ensures.symmetric in
    rw w.places (loss_symmetric (states s) (one_of s) (matrix_of s.a) offer.form c.in_ok-loss.loss form w)

pub returns-in_err-check_definite-2-clause-refusal : goal.returns-in_err-check_definite-2-clause-refusal
returns-in_err-check_definite-2-clause-refusal c =
    let s = c.args.system.now in
    let d = states s in
    let offer = c.args.offer.now in
    let P = matrix_of offer.form.rows in
    let loss = c.in_ok-loss.loss in
    let w = c.in_ok-loss.ensures.loss in
    let e = c.in_err-check_definite-2.field-0.0 in
    let gone : refusal_of c.from_residual-in_err-check_definite-2.result ≡ Some e = search rules in
    let own : offer.form.d ≡ d = c.in_ok-check_form.ensures.places in
    let form = ap (λ k. is_symmetric k P) (sym own) ∙ c.in_ok-check_form.ensures.symmetric in
    let shape : first_of (form_tests d offer.form) ≡ None = sym c.check_form.ensures.refusal ∙ refusal-ok c.check_form.result c.in_ok-check_form.field-0 c.in_ok-check_form.was in
    let first = definite_at c.check_definite.result None part.Positive offer.form.d d offer.positive P own c.check_definite.ensures.refusal (refusal-ok c.check_definite.result c.in_ok-check_definite.field-0 c.in_ok-check_definite.was) in
    let wide : first_of (loss_tests d (one_of s) (matrix_of s.a) P) ≡ None = sym c.loss_form.ensures.refusal ∙ refusal-ok c.loss_form.result loss c.in_ok-loss.was in
    let second = definite_at c.check_definite-2.result (Some e) part.Fall loss.d d offer.fall (matrix_of loss.rows) w.places c.check_definite-2.ensures.refusal (refusal-err c.check_definite-2.result e c.in_err-check_definite-2.was) in
    gone ∙ sym (late_parts d (one_of s) (matrix_of s.a) offer loss form w ∙ rw (shape, first, wide, second) refl)

-- what an accepted offer has
record IsAccepted (c : goal.In_ok-check_definite-2) : Type 0 where
  form : is_symmetric (states c.args.system.now) (matrix_of c.args.offer.now.form.rows) ≡ true
  shape : first_of (form_tests (states c.args.system.now) c.args.offer.now.form) ≡ None
  first : first_of (definite_tests part.Positive (states c.args.system.now) c.args.offer.now.positive (matrix_of c.args.offer.now.form.rows) (λ i j. [])) ≡ None
  wide : first_of (loss_tests (states c.args.system.now) (one_of c.args.system.now) (matrix_of c.args.system.now.a) (matrix_of c.args.offer.now.form.rows)) ≡ None
  second : first_of (definite_tests part.Fall (states c.args.system.now) c.args.offer.now.fall (matrix_of c.in_ok-loss.loss.rows) (λ i j. [])) ≡ None

accepted : (c : goal.In_ok-check_definite-2) → IsAccepted c
accepted c =
    let d = states c.args.system.now in
    let offer = c.args.offer.now in
    let loss = c.in_ok-loss.loss in
    let own : offer.form.d ≡ d = c.in_ok-check_form.ensures.places in
    record {
      form = ap (λ k. is_symmetric k (matrix_of offer.form.rows)) (sym own) ∙ c.in_ok-check_form.ensures.symmetric;
      shape = sym c.check_form.ensures.refusal ∙ refusal-ok c.check_form.result c.in_ok-check_form.field-0 c.in_ok-check_form.was;
      first = definite_at c.check_definite.result None part.Positive offer.form.d d offer.positive (matrix_of offer.form.rows) own c.check_definite.ensures.refusal
          (refusal-ok c.check_definite.result c.in_ok-check_definite.field-0 c.in_ok-check_definite.was);
      wide = sym c.loss_form.ensures.refusal ∙ refusal-ok c.loss_form.result loss c.in_ok-loss.was;
      second = definite_at c.check_definite-2.result None part.Fall loss.d d offer.fall (matrix_of loss.rows) c.in_ok-loss.ensures.loss.places c.check_definite-2.ensures.refusal
          (refusal-ok c.check_definite-2.result c.in_ok-check_definite-2.field-0 c.in_ok-check_definite-2.was);
    }

pub returns-clause-refusal : goal.returns-clause-refusal
returns-clause-refusal c =
    let s = c.args.system.now in
    let a = accepted c in
    sym (late_parts (states s) (one_of s) (matrix_of s.a) c.args.offer.now c.in_ok-loss.loss a.form c.in_ok-loss.ensures.loss ∙ rw (a.shape, a.first, a.wide, a.second) refl)

pub returns-clause-falls : goal.returns-clause-falls
returns-clause-falls c =
    let s = c.args.system.now in
    let a = accepted c in
    loss_falls (states s) (one_of s) (matrix_of s.a) c.args.offer.now c.in_ok-loss.loss a.form c.in_ok-loss.ensures.loss a.first a.second
