use Rattle.std.proofs.Common.{SFits, rules, subst}
use Rattle.std.specs.Int.{w64}
use Rattle.std.proofs.lemmas.Int.{to_z-of_z}
use Rattle.dsv_linear.specs.SmallNumbers.{IsSmall}
use Rattle.dsv_linear.proofs.SmallSums.{product_size, slight_product_size}
use Rattle.dsv_linear.proofs.small.are_products_small.Goals as goal

pub returns-then-is_small : goal.returns-then-is_small
returns-then-is_small c s =
    let fits : SFits w64 c.args.c.now = search rules in
    let small = subst IsSmall (to_z-of_z w64 c.args.c.now fits) (c.is_small.ensures s) in
    (product_size c.args.c.now c.args.ends.now.low small c.requires.low, product_size c.args.c.now c.args.ends.now.high small c.requires.high)

pub returns-then-is_slight : goal.returns-then-is_slight
returns-then-is_slight c s =
    let fits : SFits w64 c.args.c.now = search rules in
    (slight_product_size c.args.c.now c.args.ends.now.low fits (search rules), slight_product_size c.args.c.now c.args.ends.now.high fits (c.is_slight-then-is_slight.ensures s))
