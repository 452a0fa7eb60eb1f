use Rattle.std.proofs.Common.{◌∙◌, SFits, rules}
use Rattle.std.specs.Int.{w64}
use Rattle.dsv_linear.proofs.SmallSums.{with_product_is}
use Rattle.dsv_linear.proofs.small.with_product.Goals as goal

pub returns : goal.returns
returns c =
    let first : SFits w64 c.args.c.now = search rules in
    let second : SFits w64 c.args.end.now = search rules in
    c.from-3.ensures ∙ with_product_is c.args.sum c.args.c.now c.args.end.now c.get.result c.from.result c.from-2.result c.requires.room c.requires.product first second c.get.ensures c.from.ensures c.from-2.ensures
