use Rattle.std.proofs.Common.{◌<◌, ℕ, [], ◌∷◌, Some, None, neg_ℤ, sym, ◌∙◌, arith, rules}
use Rattle.dsv_algebra.specs.Vectors.{matrix_of}
use Rattle.dsv_forms.specs.Sums.{Summand, product}
use Rattle.dsv_forms.proofs.SumLemmas.{sum_more, sum_stops}
use Rattle.dsv_state_space.specs.StateView.{states}
use Rattle.dsv_state_space.proofs.LossLemmas.{product_more}
use Rattle.dsv_state_space.proofs.falls.sum_less_row.Goals as goal

pub returns-in_err-sum : goal.returns-in_err-sum
returns-in_err-sum c =
    let A = matrix_of c.args.system.now.a in
    let P = matrix_of c.args.form.now.rows in
    let k = c.args.k in
    let l = c.loop-l.l in
    let t : ℕ → Summand = λ l. product (neg_ℤ (A k c.args.at.row)) (A l c.args.at.column) (P k l) in
    let n = states c.args.system.now in
    let count = c.states-l-end.ensures.count in
    let inside : l < n = omega arith in
    c.from_residual.ensures ∙ sym (sum_stops (λ l. t l ∷ []) c.args.sum l n c.loop-l.sum inside c.loop-l.invariant
    (product_more None c.loop-l.sum c.negation-factor.result c.number_of-other.result c.entry.result (A k c.args.at.row) (A l c.args.at.column) (P k l)
    (search rules) (search rules) c.entry.ensures (sym c.in_err-sum.was ∙ c.sum_with_product.ensures)))

pub loop-l-preserved : goal.loop-l-preserved
loop-l-preserved c =
    let A = matrix_of c.args.system.now.a in
    let P = matrix_of c.args.form.now.rows in
    let k = c.args.k in
    let l = c.loop-l.l in
    let t : ℕ → Summand = λ l. product (neg_ℤ (A k c.args.at.row)) (A l c.args.at.column) (P k l) in
    sum_more (λ l. t l ∷ []) c.args.sum l c.loop-l.sum (Some c.in_ok-sum.sum) c.loop-l.invariant
    (product_more (Some c.in_ok-sum.sum) c.loop-l.sum c.negation-factor.result c.number_of-other.result c.entry.result (A k c.args.at.row) (A l c.args.at.column) (P k l)
    (search rules) (search rules) c.entry.ensures (sym c.in_ok-sum.was ∙ c.sum_with_product.ensures))
