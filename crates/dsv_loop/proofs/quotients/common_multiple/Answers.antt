use Rattle.dsv_loop.proofs.Exact.{divisor_positive, divisor_divides}
use Rattle.dsv_loop.proofs.quotients.common_multiple.Goals as goal

pub exact_quotient-requires-clause-positive : goal.exact_quotient-requires-clause-positive
exact_quotient-requires-clause-positive c =
    divisor_positive c.args.a.now c.args.b.now c.in_ok-divisor.divisor c.in_ok-divisor.ensures c.requires.second

pub exact_quotient-requires-clause-divides : goal.exact_quotient-requires-clause-divides
exact_quotient-requires-clause-divides c = divisor_divides c.args.a.now c.args.b.now c.in_ok-divisor.divisor c.in_ok-divisor.ensures
