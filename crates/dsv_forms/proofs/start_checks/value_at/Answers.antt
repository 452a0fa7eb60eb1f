use Rattle.std.proofs.Common.{ℕ, List, pos, Some, sym, ◌∙◌, arith}
use Rattle.dsv_algebra.specs.Vectors.{vector_of, matrix_of}
use Rattle.dsv_forms.specs.Sums.{Summand, row_summands}
use Rattle.dsv_forms.proofs.SumLemmas.{sum_more, sum_stops}
use Rattle.dsv_forms.proofs.start_checks.value_at.Goals as goal

pub returns-in_err-sum : goal.returns-in_err-sum
returns-in_err-sum c =
    let d = c.args.form.now.d in
    let g : ℕ → List Summand = row_summands d (matrix_of c.args.form.now.rows) (vector_of c.args.start.now) in
    c.from_residual.ensures ∙ sym (sum_stops g (pos 0) c.loop-i.i d c.loop-i.sum (omega arith) c.loop-i.invariant (sym c.in_err-sum.was ∙ c.sum_with_row.ensures))

pub loop-i-preserved : goal.loop-i-preserved
loop-i-preserved c =
    let g : ℕ → List Summand = row_summands c.args.form.now.d (matrix_of c.args.form.now.rows) (vector_of c.args.start.now) in
    sum_more g (pos 0) c.loop-i.i c.loop-i.sum (Some c.in_ok-sum.sum) c.loop-i.invariant (sym c.in_ok-sum.was ∙ c.sum_with_row.ensures)
