use Rattle.std.proofs.Common.{◌≡◌, below_more, ap, ◌∙◌, arith}
use Rattle.dsv_algebra.specs.Vectors.{matrix_of}
use Rattle.dsv_sums.specs.Partial.{first_squares}
use Rattle.dsv_sums.proofs.Leftovers.{eliminated_where}
use Rattle.dsv_sums.proofs.elimination.squares_of.Goals as goal

pub with_rest-requires-clause-squares : goal.with_rest-requires-clause-squares
with_rest-requires-clause-squares c =
    let d = c.args.form.now.d in
    let T = matrix_of c.args.form.now.rows in
    let end : c.loop-k.k ≡ d = omega arith in
    c.loop-k.invariant.same ∙ ap (first_squares d T) end

pub loop-k-preserved : goal.loop-k-preserved
loop-k-preserved c =
    let both = rw c.in_ok-squares.was at c.with_square.ensures in
    record { same = both.0; positive = below_more _ _ c.loop-k.invariant.positive both.1 }

pub returns : goal.returns
returns c =
    eliminated_where c.args.form.now.d (matrix_of c.args.form.now.rows) c.with_rest.result (λ k h. c.loop-k.invariant.positive k (omega arith)) c.with_rest.ensures
