use Rattle.std.proofs.Common.{◌≡◌, ◌<◌, ◌^◌, ◌*◌, ◌+◌, ◌++◌, length, drop, unsigned_abs}
use Rattle.dsv_delta.specs.Binomials.{weight}
use Rattle.dsv_delta.specs.Deltas.{numerators}
use Rattle.dsv_delta.proofs.denominators.numerators.Given as goal

abbrev pub invariant-loop-fraction : goal.invariant-loop-fraction
invariant-loop-fraction l = record {
  places : length l.out.items ≡ l.fraction-index;
  small : l.weight < 2 ^ 126;
  same : l.out.items ++ numerators (unsigned_abs l.common) (drop l.fraction-index l.fractions) ≡ numerators (unsigned_abs l.common) l.fractions;
  heavy : l.weight * 2 ^ length (drop l.fraction-index l.fractions) + weight (numerators (unsigned_abs l.common) (drop l.fraction-index l.fractions)) ≡ weight (numerators (unsigned_abs l.common) l.fractions);
}
