use Rattle.dsv_loop.proofs.Exact.{quotient_found, found_quotient}
use Rattle.dsv_loop.proofs.quotients.exact_quotient.Goals as goal

pub unreachable-requires : goal.unreachable-requires
unreachable-requires c =
    quotient_found c.args.number.now c.args.divisor.now c.in_ok-quotient.field-0 c.requires.positive c.requires.divides c.in_ok-quotient.ensures c.in-None.is

pub returns : goal.returns
returns c =
    found_quotient c.args.number.now c.args.divisor.now c.in-Some.quotient c.in_ok-quotient.field-0 c.requires.positive c.requires.divides c.in_ok-quotient.ensures c.in-Some.is
