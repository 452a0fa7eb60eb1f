use Rattle.std.proofs.Common.{ℕ, [], ◌∷◌, pos, Some, None, sym, ◌∙◌, arith}
use Rattle.dsv_algebra.specs.Squares.{beside}
use Rattle.dsv_algebra.specs.Vectors.{matrix_of}
use Rattle.dsv_forms.specs.Sums.{Summand}
use Rattle.dsv_forms.proofs.SumLemmas.{sum_more, sum_stops, one_summand}
use Rattle.dsv_forms.proofs.squares.sum_of_sizes.Goals as goal

pub returns-in_err-sum : goal.returns-in_err-sum
returns-in_err-sum c =
    let R = matrix_of c.args.rest.now in
    let t : ℕ → Summand = λ j. (R c.args.i j ∷ [], beside R c.args.i j) in
    c.from_residual.ensures ∙ sym (sum_stops (λ j. t j ∷ []) (pos 0) c.loop-j.j c.args.d c.loop-j.sum (omega arith) c.loop-j.invariant
    (one_summand c.loop-j.sum (t c.loop-j.j) None (sym c.in_err-sum.was ∙ c.sum_with_size.ensures)))

pub loop-j-preserved : goal.loop-j-preserved
loop-j-preserved c =
    let R = matrix_of c.args.rest.now in
    let t : ℕ → Summand = λ j. (R c.args.i j ∷ [], beside R c.args.i j) in
    sum_more (λ j. t j ∷ []) (pos 0) c.loop-j.j c.loop-j.sum (Some c.in_ok-sum.sum) c.loop-j.invariant
    (one_summand c.loop-j.sum (t c.loop-j.j) (Some c.in_ok-sum.sum) (sym c.in_ok-sum.was ∙ c.sum_with_size.ensures))
