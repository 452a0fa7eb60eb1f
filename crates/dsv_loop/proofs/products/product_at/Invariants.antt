use Rattle.std.proofs.Common.{◌≡◌, ◌-◌}
use Rattle.std.proofs.Math.IntN.{◌*ℤ◌}
use Rattle.dsv_algebra.specs.Vectors.{vector_of, sum_to}
use Rattle.dsv_loop.proofs.products.product_at.Given as goal

abbrev pub invariant-loop-i : goal.invariant-loop-i
invariant-loop-i l = l.sum ≡ sum_to l.i (λ i. vector_of l.fs i *ℤ vector_of l.gs (l.k - i))
