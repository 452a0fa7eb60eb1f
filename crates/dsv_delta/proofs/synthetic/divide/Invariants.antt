use Rattle.std.proofs.Common.{◌≡◌, ◌+◌, ◌^◌, ◌<◌, ◌++◌, take, drop, pos, unsigned_abs}
use Rattle.dsv_delta.specs.Binomials.{weight}
use Rattle.dsv_delta.specs.Running.{running_sums}
use Rattle.dsv_delta.proofs.synthetic.divide.Given as goal

abbrev pub invariant-loop-coefficient : goal.invariant-loop-coefficient
invariant-loop-coefficient l = record {
  small : unsigned_abs l.carry + weight (drop l.coefficient-index l.coefficients) < 2 ^ 126;
  same : take l.coefficient-index l.coefficients ++ running_sums l.carry (drop l.coefficient-index l.coefficients) ≡ running_sums (pos 0) l.fn.coefficients;
}
