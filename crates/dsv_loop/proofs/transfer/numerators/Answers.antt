use Rattle.std.proofs.Common.{arith}
use Rattle.dsv_loop.proofs.transfer.numerators.Goals as goal

pub numerator-requires-clause-divides : goal.numerator-requires-clause-divides
numerator-requires-clause-divides c = rw c.fraction-item.is (c.requires.divides c.loop-fraction.fraction-index c.fraction-item.result (omega arith))
