use Rattle.std.proofs.Common.{unsigned_abs}
use Rattle.dsv_delta.proofs.Overs.{IsPower}
use Rattle.dsv_delta.proofs.powers.bounded_over_power.Given as goal

abbrev pub invariant-dividing : goal.invariant-dividing
invariant-dividing l = IsPower l.fn.delta l.fn.sum (unsigned_abs l.fn.common) l.counter l.quotient
