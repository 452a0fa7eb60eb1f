use Rattle.std.proofs.Common.{◌≡◌, ◌<◌, take, pos}
use Rattle.dsv_algebra.specs.Narrow.{narrow_of}
use Rattle.dsv_delta.specs.Deltas.{common}
use Rattle.dsv_delta.proofs.denominators.common_denominator.Given as goal

abbrev pub invariant-loop-fraction : goal.invariant-loop-fraction
invariant-loop-fraction l = record {
  positive : 0 < common (take l.fraction-index l.fractions);
  same : l.common ≡ narrow_of (pos (common (take l.fraction-index l.fractions)));
}
