use Rattle.dsv_meaning.proofs.Sizes.{delta_is_small}
use Rattle.dsv_meaning.proofs.summands.delta_word.Goals as goal

pub returns-clause-small : goal.returns-clause-small
returns-clause-small c = delta_is_small c.args.quantised.now c.delta.result c.delta.ensures.quantised c.delta.ensures.same
