use Rattle.dsv_meaning.proofs.Sizes.{first_is_small}
use Rattle.dsv_meaning.proofs.summands.transposed_output.Goals as goal

pub push_product-requires-clause-small : goal.push_product-requires-clause-small
push_product-requires-clause-small c = rw c.b.ensures.same (first_is_small c.args.quantised.now c.b.ensures.quantised)
