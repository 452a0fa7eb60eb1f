use Rattle.std.proofs.Common.{◌≡◌, ◌++◌, drop, unsigned_abs}
use Rattle.dsv_delta.specs.Deltas.{numerators}
use Rattle.dsv_loop.proofs.transfer.numerators.Given as goal

abbrev pub invariant-loop-fraction : goal.invariant-loop-fraction
invariant-loop-fraction l = l.numerators ++ numerators (unsigned_abs l.common) (drop l.fraction-index l.fractions) ≡ numerators (unsigned_abs l.common) l.fractions
