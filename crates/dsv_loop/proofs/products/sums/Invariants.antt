use Rattle.std.proofs.Common.{◌≡◌, map}
use Rattle.std.proofs.Math.IntN.{◌+ℤ◌}
use Rattle.std.specs.List.{range_with_len}
use Rattle.dsv_algebra.specs.Vectors.{vector_of}
use Rattle.dsv_loop.proofs.products.sums.Given as goal

abbrev pub invariant-loop-k : goal.invariant-loop-k
invariant-loop-k l = l.sums ≡ map (λ k. vector_of l.fs k +ℤ vector_of l.gs k) (range_with_len 0 l.k)
