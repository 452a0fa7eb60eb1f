use Rattle.std.proofs.Common.{ℕ, [], ◌∷◌, pos, Some, None, sym, ◌∙◌, arith}
use Rattle.dsv_forms.specs.Refusals.{weights_of, rows_of}
use Rattle.dsv_forms.specs.Sums.{Summand, product}
use Rattle.dsv_forms.proofs.SumLemmas.{sum_more, sum_stops, one_summand}
use Rattle.dsv_forms.proofs.squares.sum_of_squares.Goals as goal

pub returns-in_err-sum : goal.returns-in_err-sum
returns-in_err-sum c =
    let s = c.args.squares.now in
    let t : ℕ → Summand = λ k. product (weights_of s k) (rows_of s k c.args.i) (rows_of s k c.args.j) in
    c.from_residual.ensures ∙ sym (sum_stops (λ k. t k ∷ []) (pos 0) c.loop-k.k c.args.n c.loop-k.sum (omega arith) c.loop-k.invariant
    (one_summand c.loop-k.sum (t c.loop-k.k) None (sym c.in_err-sum.was ∙ c.sum_with_square.ensures)))

pub loop-k-preserved : goal.loop-k-preserved
loop-k-preserved c =
    let s = c.args.squares.now in
    let t : ℕ → Summand = λ k. product (weights_of s k) (rows_of s k c.args.i) (rows_of s k c.args.j) in
    sum_more (λ k. t k ∷ []) (pos 0) c.loop-k.k c.loop-k.sum (Some c.in_ok-sum.sum) c.loop-k.invariant
    (one_summand c.loop-k.sum (t c.loop-k.k) (Some c.in_ok-sum.sum) (sym c.in_ok-sum.was ∙ c.sum_with_square.ensures))
