use Rattle.dsv_gain.proofs.Near.{answer_shows}
use Rattle.dsv_gain.proofs.controllers.controller_error.Goals as goal

pub returns-clause-near : goal.returns-clause-near
returns-clause-near c = answer_shows c.args.asking.now.subject.now c.args.offer.now c.args.asking.now.net c.error_of.result c.order-order.ensures.quantised c.args.asking.now.same_net c.error_of.ensures
