use Rattle.std.proofs.Common.{◌≡◌, ◌<◌, Some, arith, rules, sym, ◌∙◌}
use Rattle.dsv_algebra.specs.Vectors.{matrix_of}
use Rattle.dsv_forms.specs.Refusals.{refusal_of}
use Rattle.dsv_forms.proofs.Places.{first_none, first_some, refusal-err}
use Rattle.dsv_state_space.specs.StateForms.{one_of, loss_row_tests}
use Rattle.dsv_state_space.specs.StateView.{states}
use Rattle.dsv_state_space.proofs.falls.loss_form.Goals as goal

pub returns-in_err-rows-clause-refusal : goal.returns-in_err-rows-clause-refusal
returns-in_err-rows-clause-refusal c =
    let s = c.args.system.now in
    let d = states s in
    let e = c.in_err-rows.field-0.0 in
    let gone : refusal_of c.from_residual.result ≡ Some e = search rules in
    let count = c.states-d.ensures.count in
    let inside : c.loop-i.i < d = omega arith in
    gone ∙ sym (first_some (loss_row_tests d (one_of s) (matrix_of s.a) (matrix_of c.args.form.now.rows)) d c.loop-i.i e inside c.loop-i.invariant.passed
    (sym c.loss_row.ensures.refusal ∙ refusal-err c.loss_row.result e c.in_err-rows.was))

pub returns-clause-refusal : goal.returns-clause-refusal
returns-clause-refusal c =
    let s = c.args.system.now in
    let count = c.states-d.ensures.count in
    sym (first_none (loss_row_tests (states s) (one_of s) (matrix_of s.a) (matrix_of c.args.form.now.rows)) (states s) (λ k h. c.loop-i.invariant.passed k (omega arith)))
