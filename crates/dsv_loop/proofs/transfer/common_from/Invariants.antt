use Rattle.std.proofs.Common.{◌≡◌, drop, pos, unsigned_abs}
use lib.Signed.{◌<ℤ◌}
use Rattle.dsv_delta.specs.Deltas.{common_from}
use Rattle.dsv_loop.proofs.transfer.common_from.Given as goal

abbrev pub invariant-loop-fraction : goal.invariant-loop-fraction
invariant-loop-fraction l = record {
  positive : pos 0 <ℤ l.common;
  same : common_from (unsigned_abs l.common) (drop l.fraction-index l.fractions) ≡ common_from (unsigned_abs l.fn.first) l.fractions;
}
