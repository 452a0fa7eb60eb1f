use Rattle.std.proofs.Common.{◌≡◌, [], Some, sym, ◌∙◌, arith, rules}
use Rattle.dsv_algebra.specs.Vectors.{matrix_of}
use Rattle.dsv_forms.specs.Refusals.{refusal_of, row_tests}
use Rattle.dsv_forms.proofs.Places.{first_none, first_some, refusal-err}
use Rattle.dsv_forms.proofs.squares.check_sides.Goals as goal

pub returns-in_err-check_row : goal.returns-in_err-check_row
returns-in_err-check_row c =
    let d = c.args.form.now.d in
    let e = c.in_err-check_row.field-0.0 in
    let gone : refusal_of c.from_residual.result ≡ Some e = search rules in
    gone ∙ sym (first_some (row_tests c.args.part d c.args.n c.args.squares.now (matrix_of c.args.form.now.rows) (λ i j. [])) d c.loop-i.i e (omega arith) c.loop-i.invariant
    (sym c.check_row.ensures ∙ refusal-err c.check_row.result e c.in_err-check_row.was))

pub returns : goal.returns
returns c =
    let d = c.args.form.now.d in
    sym (first_none (row_tests c.args.part d c.args.n c.args.squares.now (matrix_of c.args.form.now.rows) (λ i j. [])) d (λ k h. c.loop-i.invariant k (omega arith)))
