use Rattle.dsv_gain.proofs.Near.{answer_found, answer_near}
use Rattle.dsv_gain.proofs.controllers.rounding_error.Goals as goal

pub returns-clause-found : goal.returns-clause-found
returns-clause-found c = answer_found c.args.asking.now.subject.now c.args.asking.now.net c.error_bound.result c.args.asking.now.same_net c.error_bound.ensures.found

pub returns-clause-near : goal.returns-clause-near
returns-clause-near c = answer_near c.args.asking.now.subject.now c.error_bound.result c.order-order.ensures.quantised (returns-clause-found c)
