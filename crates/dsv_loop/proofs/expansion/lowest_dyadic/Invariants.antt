use Rattle.std.proofs.Common.{◌≡◌, ◌-◌, ◌<◌}
use Rattle.dsv_delta.specs.ZCoefficients.{dyadic}
use Rattle.dsv_loop.proofs.expansion.lowest_dyadic.Given as goal

abbrev pub invariant-loop-taken : goal.invariant-loop-taken
invariant-loop-taken l = record {
  some : 0 < l.numerator;
  same : dyadic l.numerator (l.frac_bits - l.taken) ≡ dyadic l.fn.delta l.frac_bits;
}
