use Rattle.std.proofs.Common.{arith}
use Rattle.dsv_loop.proofs.quotients.exact_quotients.Goals as goal

pub exact_quotient-requires-clause-divides : goal.exact_quotient-requires-clause-divides
exact_quotient-requires-clause-divides c = rw c.number-item.is (c.requires.divides c.loop-number.number-index c.number-item.result (omega arith))
