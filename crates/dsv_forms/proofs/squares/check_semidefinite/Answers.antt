use Rattle.std.proofs.Common.{◌≡◌, false, Some, refl, sym, ◌∙◌, arith, rules}
use Rattle.dsv_algebra.specs.Vectors.{matrix_of}
use Rattle.dsv_forms.specs.Refusals.{refusal_of, too_many_rows}
use Rattle.dsv_forms.proofs.OfferLemmas.{not_negative_where}
use Rattle.dsv_forms.proofs.Places.{refusal-err, refusal-ok}
use Rattle.dsv_forms.proofs.Shown.{few_rows, semidefinite_after_shape}
use Rattle.dsv_forms.proofs.squares.check_semidefinite.Goals as goal

pub returns-in_err-check_weak_weights-clause-refusal : goal.returns-in_err-check_weak_weights-clause-refusal
returns-in_err-check_weak_weights-clause-refusal c =
    let d = c.args.form.now.d in
    let s = c.args.squares.now in
    let e = c.in_err-check_weak_weights.field-0.0 in
    let gone : refusal_of c.from_residual.result ≡ Some e = search rules in
    let shape : too_many_rows d s ≡ false = few_rows d s (sym c.if-has_bad_rest.ensures) (omega arith) in
    gone ∙ sym (semidefinite_after_shape c.args.part d s (matrix_of c.args.form.now.rows) shape
    ∙ rw (← c.check_weak_weights.ensures, refusal-err c.check_weak_weights.result e c.in_err-check_weak_weights.was) refl)

pub returns-in_err-check_sides-clause-refusal : goal.returns-in_err-check_sides-clause-refusal
returns-in_err-check_sides-clause-refusal c =
    let d = c.args.form.now.d in
    let s = c.args.squares.now in
    let e = c.in_err-check_sides.field-0.0 in
    let gone : refusal_of c.from_residual-in_err-check_sides.result ≡ Some e = search rules in
    let shape : too_many_rows d s ≡ false = few_rows d s (sym c.if-has_bad_rest.ensures) (omega arith) in
    gone ∙ sym (semidefinite_after_shape c.args.part d s (matrix_of c.args.form.now.rows) shape
    ∙ rw (
      ← c.check_weak_weights.ensures,
      refusal-ok c.check_weak_weights.result c.in_ok-check_weak_weights.field-0 c.in_ok-check_weak_weights.was,
      ← c.check_sides.ensures,
      refusal-err c.check_sides.result e c.in_err-check_sides.was,
    ) refl)

pub returns-clause-refusal : goal.returns-clause-refusal
returns-clause-refusal c =
    let d = c.args.form.now.d in
    let s = c.args.squares.now in
    let shape : too_many_rows d s ≡ false = few_rows d s (sym c.if-has_bad_rest.ensures) (omega arith) in
    c.check_dominance.ensures ∙ sym (semidefinite_after_shape c.args.part d s (matrix_of c.args.form.now.rows) shape
    ∙ rw (
      ← c.check_weak_weights.ensures,
      refusal-ok c.check_weak_weights.result c.in_ok-check_weak_weights.field-0 c.in_ok-check_weak_weights.was,
      ← c.check_sides.ensures,
      refusal-ok c.check_sides.result c.in_ok-check_sides.field-0 c.in_ok-check_sides.was,
    ) refl)

pub returns-clause-not_negative : goal.returns-clause-not_negative
returns-clause-not_negative c =
    not_negative_where c.check_dominance.result c.args.part c.args.form.now.d c.args.squares.now (matrix_of c.args.form.now.rows) c.requires.symmetric (returns-clause-refusal c)
