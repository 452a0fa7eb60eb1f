use Rattle.dsv_meaning.proofs.Sizes.{forward_is_small}
use Rattle.dsv_meaning.proofs.summands.feed_forward.Goals as goal

pub returns-clause-small : goal.returns-clause-small
returns-clause-small c = rw (c.rest_after.ensures, c.b.ensures.same) (forward_is_small c.args.quantised.now c.b.ensures.quantised)
