use Rattle.std.proofs.Common.{sym, ap}
use Rattle.std.specs.Prelude.{option_to_list}
use Rattle.dsv_ctext.specs.Plans.{has_values}
use Rattle.dsv_ctext.proofs.ProductTexts.{values_at, no_values, one_values, two_values, has_both}
use Rattle.dsv_ctext.proofs.products.+has_products.Goals as goal

pub returns-in-None : goal.returns-in-None
returns-in-None t c =
    let o = c.operands_of-operands in
    ap has_values (sym (no_values c.args.plan.now.net.now c.args.i c.node_at-node.result o.result.arity c.requires.plan.netlist c.requires.there c.node_at-node.ensures.value o.ensures.arity c.in-None.is))

pub returns-in-One : goal.returns-in-One
returns-in-One t c =
    let o = c.operands_of-operands in
    let own = option_to_list c.node_factor-factor.result in
    let all = one_values c.args.plan.now.net.now c.args.i c.node_at-node.result o.result.arity own o.result.left c.requires.plan.netlist c.requires.there c.node_at-node.ensures.value o.ensures.arity c.in-One.is c.node_factor-factor.ensures o.ensures.left in
    has_both (values_at c.args.plan.now.net.now c.args.i) own (values_at c.args.plan.now.net.now o.result.left) c.has_factor-own.result c.has_products.result c.either.result all c.has_factor-own.ensures c.has_products.ensures c.either.ensures

pub returns-in-Two : goal.returns-in-Two
returns-in-Two t c =
    let o = c.operands_of-operands in
    let all = two_values c.args.plan.now.net.now c.args.i c.node_at-node.result o.result.arity o.result.left o.result.right c.requires.plan.netlist c.requires.there c.node_at-node.ensures.value o.ensures.arity c.in-Two.is o.ensures.left o.ensures.right in
    has_both (values_at c.args.plan.now.net.now c.args.i) (values_at c.args.plan.now.net.now o.result.left) (values_at c.args.plan.now.net.now o.result.right) c.has_products-first.result c.has_products-in-Two.result c.either-in-Two.result all c.has_products-first.ensures c.has_products-in-Two.ensures c.either-in-Two.ensures
