use Rattle.dsv_loop.specs.Loops.{factor_with}
use Rattle.dsv_loop.proofs.Factors.{factor-all, factor_positive}
use Rattle.dsv_loop.proofs.Multiples.{number_positive}
use Rattle.dsv_loop.proofs.loops.without_common_factor.Goals as goal

pub exact_quotients-requires-clause-positive : goal.exact_quotients-requires-clause-positive
exact_quotients-requires-clause-positive c =
    let list = c.args.list.now in number_positive c.in_ok-common_factor.field-0 (factor_with 0 list) c.in_ok-common_factor.ensures (factor_positive list c.requires)

pub exact_quotients-requires-clause-divides : goal.exact_quotients-requires-clause-divides
exact_quotients-requires-clause-divides c = rw c.in_ok-common_factor.ensures (factor-all 0 c.args.list.now)
