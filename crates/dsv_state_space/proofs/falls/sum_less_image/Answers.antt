use Rattle.std.proofs.Common.{◌<◌, ℕ, List, Some, sym, ◌∙◌, arith}
use Rattle.dsv_algebra.specs.Vectors.{matrix_of}
use Rattle.dsv_forms.specs.Sums.{Summand}
use Rattle.dsv_forms.proofs.SumLemmas.{sum_more, sum_stops}
use Rattle.dsv_state_space.specs.Losses.{row_summands}
use Rattle.dsv_state_space.specs.StateView.{states}
use Rattle.dsv_state_space.proofs.falls.sum_less_image.Goals as goal

pub returns-in_err-sum : goal.returns-in_err-sum
returns-in_err-sum c =
    let n = states c.args.system.now in
    let g : ℕ → List Summand = row_summands n (matrix_of c.args.system.now.a) (matrix_of c.args.form.now.rows) c.args.at.row c.args.at.column in
    let count = c.states-k-end.ensures.count in
    let inside : c.loop-k.k < n = omega arith in
    c.from_residual.ensures ∙ sym (sum_stops g c.args.sum c.loop-k.k n c.loop-k.sum inside c.loop-k.invariant (sym c.in_err-sum.was ∙ c.sum_less_row.ensures))

pub loop-k-preserved : goal.loop-k-preserved
loop-k-preserved c =
    let g : ℕ → List Summand = row_summands (states c.args.system.now) (matrix_of c.args.system.now.a) (matrix_of c.args.form.now.rows) c.args.at.row c.args.at.column in
    sum_more g c.args.sum c.loop-k.k c.loop-k.sum (Some c.in_ok-sum.sum) c.loop-k.invariant (sym c.in_ok-sum.was ∙ c.sum_less_row.ensures)
