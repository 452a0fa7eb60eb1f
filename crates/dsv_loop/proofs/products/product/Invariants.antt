use Rattle.std.proofs.Common.{◌≡◌, map}
use Rattle.std.specs.List.{range_with_len}
use Rattle.dsv_loop.specs.Loops.{product_at}
use Rattle.dsv_loop.proofs.products.product.Given as goal

abbrev pub invariant-loop-k : goal.invariant-loop-k
invariant-loop-k l = l.product ≡ map (product_at l.fs l.gs) (range_with_len 0 l.k)
