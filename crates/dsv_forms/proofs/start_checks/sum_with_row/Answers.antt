use Rattle.std.proofs.Common.{ℕ, [], ◌∷◌, Some, None, sym, ◌∙◌, arith}
use Rattle.dsv_algebra.specs.Vectors.{vector_of, matrix_of}
use Rattle.dsv_forms.specs.Sums.{Summand, product}
use Rattle.dsv_forms.proofs.SumLemmas.{sum_more, sum_stops, one_summand}
use Rattle.dsv_forms.proofs.start_checks.sum_with_row.Goals as goal

pub returns-in_err-sum : goal.returns-in_err-sum
returns-in_err-sum c =
    let P = matrix_of c.args.form.now.rows in
    let v = vector_of c.args.start.now in
    let t : ℕ → Summand = λ j. product (P c.args.i j) (v c.args.i) (v j) in
    c.from_residual.ensures ∙ sym (sum_stops (λ j. t j ∷ []) c.args.sum c.loop-j.j c.args.form.now.d c.loop-j.sum (omega arith) c.loop-j.invariant
    (one_summand c.loop-j.sum (t c.loop-j.j) None (sym c.in_err-sum.was ∙ c.sum_with_entry.ensures)))

pub loop-j-preserved : goal.loop-j-preserved
loop-j-preserved c =
    let P = matrix_of c.args.form.now.rows in
    let v = vector_of c.args.start.now in
    let t : ℕ → Summand = λ j. product (P c.args.i j) (v c.args.i) (v j) in
    sum_more (λ j. t j ∷ []) c.args.sum c.loop-j.j c.loop-j.sum (Some c.in_ok-sum.sum) c.loop-j.invariant
    (one_summand c.loop-j.sum (t c.loop-j.j) (Some c.in_ok-sum.sum) (sym c.in_ok-sum.was ∙ c.sum_with_entry.ensures))
