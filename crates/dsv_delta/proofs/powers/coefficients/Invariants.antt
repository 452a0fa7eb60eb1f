use Rattle.std.proofs.Common.{◌≡◌, ◌-◌, length, [], unsigned_abs}
use Rattle.dsv_algebra.specs.Vectors.{vector_of}
use Rattle.dsv_delta.specs.Deltas.{coefficients_from}
use Rattle.dsv_delta.proofs.powers.coefficients.Given as goal

abbrev pub invariant-loop-sum : goal.invariant-loop-sum
invariant-loop-sum l = record {
  places : length l.out.items ≡ l.sum-index;
  same : coefficients_from l.list l.delta (unsigned_abs l.common) (vector_of l.sums) (length l.sums - l.sum-index) l.out.items ≡ coefficients_from l.list l.delta (unsigned_abs l.common) (vector_of l.sums) (length l.sums) [];
}
