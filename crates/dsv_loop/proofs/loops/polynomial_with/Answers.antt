use Rattle.dsv_loop.proofs.Factors.{quotient_lead, positive_result}
use Rattle.dsv_loop.proofs.loops.polynomial_with.Goals as goal

pub returns-clause-lead : goal.returns-clause-lead
returns-clause-lead c =
    positive_result c.with_positive_lead.result c.in_ok-without_common_factor.field-0 (rw c.in_ok-without_common_factor.ensures (quotient_lead c.args.list.now c.requires)) c.with_positive_lead.ensures
