use Rattle.std.proofs.Common.{arith}
use Rattle.dsv_fraction.proofs.Powers.{one_over}
use Rattle.dsv_fraction.proofs.fraction.Frac.tenth.Goals as goal

pub of_sizes-requires-clause-coprime : goal.of_sizes-requires-clause-coprime
of_sizes-requires-clause-coprime c = one_over 10 (omega arith)
