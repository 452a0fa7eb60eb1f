use Rattle.std.proofs.Common.{◌∙◌, SFits, rules}
use Rattle.std.specs.Int.{w64}
use Rattle.dsv_linear.proofs.SmallSums.{with_medium_product_is}
use Rattle.dsv_linear.proofs.small.with_medium_product.Goals as goal

pub returns : goal.returns
returns c =
    let fits : SFits w64 c.args.end.now = search rules in
    c.from-2.ensures ∙ with_medium_product_is c.args.sum c.args.c c.args.end.now c.get.result c.get-2.result c.from.result c.requires.room c.requires.first c.requires.second fits c.get.ensures c.get-2.ensures c.from.ensures
