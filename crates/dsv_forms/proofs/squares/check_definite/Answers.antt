use Rattle.std.proofs.Common.{◌≡◌, false, Some, refl, sym, ◌∙◌, rules}
use Rattle.dsv_algebra.specs.Vectors.{matrix_of}
use Rattle.dsv_forms.specs.Refusals.{refusal_of, bad_shape}
use Rattle.dsv_forms.proofs.Places.{refusal-err, refusal-ok}
use Rattle.dsv_forms.proofs.Shown.{good_shape, definite_after_shape}
use Rattle.dsv_forms.proofs.OfferLemmas.{positive_where}
use Rattle.dsv_forms.proofs.squares.check_definite.Goals as goal

pub returns-in_err-check_positive_weights-clause-refusal : goal.returns-in_err-check_positive_weights-clause-refusal
returns-in_err-check_positive_weights-clause-refusal c =
    let d = c.args.form.now.d in
    let s = c.args.squares.now in
    let e = c.in_err-check_positive_weights.field-0.0 in
    let gone : refusal_of c.from_residual.result ≡ Some e = search rules in
    let shape : bad_shape d s ≡ false = good_shape d s (sym c.if-has_bad_rest.ensures) c.if-squares-form.false in
    gone ∙ sym (definite_after_shape c.args.part d s (matrix_of c.args.form.now.rows) shape
    ∙ rw (← c.check_positive_weights.ensures, refusal-err c.check_positive_weights.result e c.in_err-check_positive_weights.was) refl)

pub returns-in_err-check_triangle-clause-refusal : goal.returns-in_err-check_triangle-clause-refusal
returns-in_err-check_triangle-clause-refusal c =
    let d = c.args.form.now.d in
    let s = c.args.squares.now in
    let e = c.in_err-check_triangle.field-0.0 in
    let gone : refusal_of c.from_residual-in_err-check_triangle.result ≡ Some e = search rules in
    let shape : bad_shape d s ≡ false = good_shape d s (sym c.if-has_bad_rest.ensures) c.if-squares-form.false in
    gone ∙ sym (definite_after_shape c.args.part d s (matrix_of c.args.form.now.rows) shape
    ∙ rw (
      ← c.check_positive_weights.ensures,
      refusal-ok c.check_positive_weights.result c.in_ok-check_positive_weights.field-0 c.in_ok-check_positive_weights.was,
      ← c.check_triangle.ensures,
      refusal-err c.check_triangle.result e c.in_err-check_triangle.was,
    ) refl)

pub returns-in_err-check_sides-clause-refusal : goal.returns-in_err-check_sides-clause-refusal
returns-in_err-check_sides-clause-refusal c =
    let d = c.args.form.now.d in
    let s = c.args.squares.now in
    let e = c.in_err-check_sides.field-0.0 in
    let gone : refusal_of c.from_residual-in_err-check_sides.result ≡ Some e = search rules in
    let shape : bad_shape d s ≡ false = good_shape d s (sym c.if-has_bad_rest.ensures) c.if-squares-form.false in
    gone ∙ sym (definite_after_shape c.args.part d s (matrix_of c.args.form.now.rows) shape
    ∙ rw (
      ← c.check_positive_weights.ensures,
      refusal-ok c.check_positive_weights.result c.in_ok-check_positive_weights.field-0 c.in_ok-check_positive_weights.was,
      ← c.check_triangle.ensures,
      refusal-ok c.check_triangle.result c.in_ok-check_triangle.field-0 c.in_ok-check_triangle.was,
      ← c.check_sides.ensures,
      refusal-err c.check_sides.result e c.in_err-check_sides.was,
    ) refl)

pub returns-clause-refusal : goal.returns-clause-refusal
returns-clause-refusal c =
    let d = c.args.form.now.d in
    let s = c.args.squares.now in
    let shape : bad_shape d s ≡ false = good_shape d s (sym c.if-has_bad_rest.ensures) c.if-squares-form.false in
    c.check_dominance.ensures ∙ sym (definite_after_shape c.args.part d s (matrix_of c.args.form.now.rows) shape
    ∙ rw (
      ← c.check_positive_weights.ensures,
      refusal-ok c.check_positive_weights.result c.in_ok-check_positive_weights.field-0 c.in_ok-check_positive_weights.was,
      ← c.check_triangle.ensures,
      refusal-ok c.check_triangle.result c.in_ok-check_triangle.field-0 c.in_ok-check_triangle.was,
      ← c.check_sides.ensures,
      refusal-ok c.check_sides.result c.in_ok-check_sides.field-0 c.in_ok-check_sides.was,
    ) refl)

pub returns-clause-positive : goal.returns-clause-positive
returns-clause-positive c =
    positive_where c.check_dominance.result c.args.part c.args.form.now.d c.args.squares.now (matrix_of c.args.form.now.rows) c.requires.symmetric (returns-clause-refusal c)
