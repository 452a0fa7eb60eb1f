use Rattle.std.proofs.Common.{rules, ◌||◌, refl}
use Rattle.std.specs.Prelude.{option_to_list}
use Rattle.dsv_base.proofs.TakingLemmas.{writes_after, writes_cut}
use Rattle.dsv_ctext.specs.Comments.{values_text}
use Rattle.dsv_ctext.specs.Plans.{has_values}
use Rattle.dsv_ctext.proofs.ProductTexts.{values_at, no_values, one_values, two_values, values_written}
use Rattle.dsv_ctext.proofs.products.+put_products.Goals as goal

pub returns-in-None : goal.returns-in-None
returns-in-None g t c =
    let o = c.operands_of-operands in
    rw (no_values c.args.plan.now.net.now c.args.i c.node_at-node.result o.result.arity c.requires.plan.netlist c.requires.there c.node_at-node.ensures.value o.ensures.arity c.in-None.is) (search rules)

pub returns-in_err-put_factor-in-One : goal.returns-in_err-put_factor-in-One
returns-in_err-put_factor-in-One g t c =
    let o = c.operands_of-operands in
    let own = option_to_list c.node_factor-factor.result in
    let all = one_values c.args.plan.now.net.now c.args.i c.node_at-node.result o.result.arity own o.result.left c.requires.plan.netlist c.requires.there c.node_at-node.ensures.value o.ensures.arity c.in-One.is c.node_factor-factor.ensures o.ensures.left in
    let later = c.args.started || has_values own in
    rw (values_written c.args.plan.now.names.remarks.format.frac_bits c.args.started later (has_values own) (values_at c.args.plan.now.net.now c.args.i) own (values_at c.args.plan.now.net.now o.result.left) all refl refl) (writes_cut {x = values_text c.args.plan.now.names.remarks.format.frac_bits c.args.started own} (values_text c.args.plan.now.names.remarks.format.frac_bits later (values_at c.args.plan.now.net.now o.result.left)) c.from_residual.ensures.0 c.in_err-put_factor-in-One.ensures.cut)

pub returns-in_ok-put_factor-in-One : goal.returns-in_ok-put_factor-in-One
returns-in_ok-put_factor-in-One g t c =
    let o = c.operands_of-operands in
    let own = option_to_list c.node_factor-factor.result in
    let all = one_values c.args.plan.now.net.now c.args.i c.node_at-node.result o.result.arity own o.result.left c.requires.plan.netlist c.requires.there c.node_at-node.ensures.value o.ensures.arity c.in-One.is c.node_factor-factor.ensures o.ensures.left in
    rw (values_written c.args.plan.now.names.remarks.format.frac_bits c.args.started c.either-later.result c.has_factor.result (values_at c.args.plan.now.net.now c.args.i) own (values_at c.args.plan.now.net.now o.result.left) all c.has_factor.ensures c.either-later.ensures) (writes_after {x = values_text c.args.plan.now.names.remarks.format.frac_bits c.args.started own} {y = values_text c.args.plan.now.names.remarks.format.frac_bits c.either-later.result (values_at c.args.plan.now.net.now o.result.left)} c.in_ok-put_factor-in-One.ensures.whole c.put_products.ensures)

pub returns-in_err-put_products-in-Two : goal.returns-in_err-put_products-in-Two
returns-in_err-put_products-in-Two g t c =
    let o = c.operands_of-operands in
    let all = two_values c.args.plan.now.net.now c.args.i c.node_at-node.result o.result.arity o.result.left o.result.right c.requires.plan.netlist c.requires.there c.node_at-node.ensures.value o.ensures.arity c.in-Two.is o.ensures.left o.ensures.right in
    let left = values_at c.args.plan.now.net.now o.result.left in
    let later = c.args.started || has_values left in
    rw (values_written c.args.plan.now.names.remarks.format.frac_bits c.args.started later (has_values left) (values_at c.args.plan.now.net.now c.args.i) left (values_at c.args.plan.now.net.now o.result.right) all refl refl) (writes_cut {x = values_text c.args.plan.now.names.remarks.format.frac_bits c.args.started left} (values_text c.args.plan.now.names.remarks.format.frac_bits later (values_at c.args.plan.now.net.now o.result.right)) c.from_residual-in_err-put_products-in-Two.ensures.0 c.in_err-put_products-in-Two.ensures.cut)

pub returns-in_ok-put_products-in-Two : goal.returns-in_ok-put_products-in-Two
returns-in_ok-put_products-in-Two g t c =
    let o = c.operands_of-operands in
    let all = two_values c.args.plan.now.net.now c.args.i c.node_at-node.result o.result.arity o.result.left o.result.right c.requires.plan.netlist c.requires.there c.node_at-node.ensures.value o.ensures.arity c.in-Two.is o.ensures.left o.ensures.right in
    let left = values_at c.args.plan.now.net.now o.result.left in
    rw (values_written c.args.plan.now.names.remarks.format.frac_bits c.args.started c.either-later-in-Two.result c.has_products.result (values_at c.args.plan.now.net.now c.args.i) left (values_at c.args.plan.now.net.now o.result.right) all c.has_products.ensures c.either-later-in-Two.ensures) (writes_after {x = values_text c.args.plan.now.names.remarks.format.frac_bits c.args.started left} {y = values_text c.args.plan.now.names.remarks.format.frac_bits c.either-later-in-Two.result (values_at c.args.plan.now.net.now o.result.right)} c.in_ok-put_products-in-Two.ensures.whole c.put_products-in-Two-2.ensures)
