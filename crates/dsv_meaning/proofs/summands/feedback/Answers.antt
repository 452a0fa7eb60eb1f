use Rattle.dsv_meaning.proofs.Sizes.{feedback_is_small}
use Rattle.dsv_meaning.proofs.summands.feedback.Goals as goal

pub returns-clause-small : goal.returns-clause-small
returns-clause-small c = rw (c.rest_after.ensures, c.a.ensures.same) (feedback_is_small c.args.quantised.now c.a.ensures.quantised)
