use Rattle.std.proofs.Common.{true, ◌++◌, refl, sym, ◌∙◌}
use Rattle.dsv_base.proofs.TakingLemmas.{writes_after, writes_cut}
use Rattle.dsv_c.specs.Programs.{codes_of, code_at}
use Rattle.dsv_ctext.specs.Texts.{code_text}
use Rattle.dsv_ctext.specs.Plans.{sign_of, tail_of, is_operand}
use Rattle.dsv_ctext.proofs.NodeTexts.{leaf_text, one_written, two_written}
use Rattle.dsv_ctext.proofs.nodes.+put_node.Goals as goal

pub returns-in-None : goal.returns-in-None
returns-in-None g t c =
    let p = c.args.plan.now in
    let n = c.node_at-node.result in
    let e = leaf_text p.names p.net.now p.types.now p.locals.now c.args.inner c.args.i n c.requires.plan c.requires.there c.node_at-node.ensures.value (sym c.operands_of-operands.ensures.arity ∙ c.in-None.is) in
    rw e c.put_head.ensures

pub returns-in_err-put_head-in-One : goal.returns-in_err-put_head-in-One
returns-in_err-put_head-in-One g t c =
    let p = c.args.plan.now in
    let n = c.node_at-node.result in
    let o = c.operands_of-operands in
    let e = one_written p.names p.net.now p.types.now p.locals.now c.args.inner c.args.i n o.result.arity (is_operand n) o.result.left (tail_of n c.args.inner) c.requires.plan c.requires.there c.node_at-node.ensures.value o.ensures.arity c.in-One.is refl o.ensures.left refl in
    rw e (writes_cut (code_text p.names (is_operand n) (code_at (codes_of p.net.now) o.result.left).expr ++ tail_of n c.args.inner) c.from_residual.ensures.0 c.in_err-put_head-in-One.ensures.cut)

pub returns-in_err-put_node-in-One : goal.returns-in_err-put_node-in-One
returns-in_err-put_node-in-One g t c =
    let p = c.args.plan.now in
    let n = c.node_at-node.result in
    let o = c.operands_of-operands in
    let e = one_written p.names p.net.now p.types.now p.locals.now c.args.inner c.args.i n o.result.arity c.is_operand.result o.result.left (tail_of n c.args.inner) c.requires.plan c.requires.there c.node_at-node.ensures.value o.ensures.arity c.in-One.is c.is_operand.ensures o.ensures.left refl in
    rw e (writes_after c.in_ok-put_head-in-One.ensures.whole (writes_cut (tail_of n c.args.inner) c.from_residual-in_err-put_node-in-One.ensures.0 c.in_err-put_node-in-One.ensures.cut))

pub returns-in_ok-put_node-in-One : goal.returns-in_ok-put_node-in-One
returns-in_ok-put_node-in-One g t c =
    let p = c.args.plan.now in
    let n = c.node_at-node.result in
    let o = c.operands_of-operands in
    let e = one_written p.names p.net.now p.types.now p.locals.now c.args.inner c.args.i n o.result.arity c.is_operand.result o.result.left c.tail_of.result.now c.requires.plan c.requires.there c.node_at-node.ensures.value o.ensures.arity c.in-One.is c.is_operand.ensures o.ensures.left c.tail_of.ensures in
    rw e (writes_after c.in_ok-put_head-in-One.ensures.whole (writes_after c.in_ok-put_node-in-One.ensures.whole c.put_all.ensures))

pub returns-in_err-put_head-in-Two : goal.returns-in_err-put_head-in-Two
returns-in_err-put_head-in-Two g t c =
    let p = c.args.plan.now in
    let n = c.node_at-node.result in
    let o = c.operands_of-operands in
    let e = two_written p.names p.net.now p.types.now p.locals.now c.args.inner c.args.i n o.result.arity o.result.left o.result.right (sign_of n) (tail_of n c.args.inner) c.requires.plan c.requires.there c.node_at-node.ensures.value o.ensures.arity c.in-Two.is o.ensures.left o.ensures.right refl refl in
    rw e (writes_cut (code_text p.names true (code_at (codes_of p.net.now) o.result.left).expr ++ (sign_of n ++ (code_text p.names true (code_at (codes_of p.net.now) o.result.right).expr ++ tail_of n c.args.inner))) c.from_residual-in_err-put_head-in-Two.ensures.0 c.in_err-put_head-in-Two.ensures.cut)

pub returns-in_err-put_node-in-Two : goal.returns-in_err-put_node-in-Two
returns-in_err-put_node-in-Two g t c =
    let p = c.args.plan.now in
    let n = c.node_at-node.result in
    let o = c.operands_of-operands in
    let e = two_written p.names p.net.now p.types.now p.locals.now c.args.inner c.args.i n o.result.arity o.result.left o.result.right (sign_of n) (tail_of n c.args.inner) c.requires.plan c.requires.there c.node_at-node.ensures.value o.ensures.arity c.in-Two.is o.ensures.left o.ensures.right refl refl in
    rw e (writes_after c.in_ok-put_head-in-Two.ensures.whole (writes_cut (sign_of n ++ (code_text p.names true (code_at (codes_of p.net.now) o.result.right).expr ++ tail_of n c.args.inner)) c.from_residual-in_err-put_node-in-Two.ensures.0 c.in_err-put_node-in-Two.ensures.cut))

pub returns-in_err-put_all-in-Two : goal.returns-in_err-put_all-in-Two
returns-in_err-put_all-in-Two g t c =
    let p = c.args.plan.now in
    let n = c.node_at-node.result in
    let o = c.operands_of-operands in
    let e = two_written p.names p.net.now p.types.now p.locals.now c.args.inner c.args.i n o.result.arity o.result.left o.result.right c.sign_of.result.now (tail_of n c.args.inner) c.requires.plan c.requires.there c.node_at-node.ensures.value o.ensures.arity c.in-Two.is o.ensures.left o.ensures.right c.sign_of.ensures refl in
    rw e (writes_after c.in_ok-put_head-in-Two.ensures.whole (writes_after c.in_ok-put_node-in-Two.ensures.whole (writes_cut (code_text p.names true (code_at (codes_of p.net.now) o.result.right).expr ++ tail_of n c.args.inner) c.from_residual-in_err-put_all-in-Two.ensures.0 c.in_err-put_all-in-Two.ensures.cut)))

pub returns-in_err-put_node-in-Two-2 : goal.returns-in_err-put_node-in-Two-2
returns-in_err-put_node-in-Two-2 g t c =
    let p = c.args.plan.now in
    let n = c.node_at-node.result in
    let o = c.operands_of-operands in
    let e = two_written p.names p.net.now p.types.now p.locals.now c.args.inner c.args.i n o.result.arity o.result.left o.result.right c.sign_of.result.now (tail_of n c.args.inner) c.requires.plan c.requires.there c.node_at-node.ensures.value o.ensures.arity c.in-Two.is o.ensures.left o.ensures.right c.sign_of.ensures refl in
    rw e (writes_after c.in_ok-put_head-in-Two.ensures.whole (writes_after c.in_ok-put_node-in-Two.ensures.whole (writes_after c.in_ok-put_all-in-Two.ensures.whole
    (writes_cut (tail_of n c.args.inner) c.from_residual-in_err-put_node-in-Two-2.ensures.0 c.in_err-put_node-in-Two-2.ensures.cut))))

pub returns-in_ok-put_node-in-Two-2 : goal.returns-in_ok-put_node-in-Two-2
returns-in_ok-put_node-in-Two-2 g t c =
    let p = c.args.plan.now in
    let n = c.node_at-node.result in
    let o = c.operands_of-operands in
    let e = two_written p.names p.net.now p.types.now p.locals.now c.args.inner c.args.i n o.result.arity o.result.left o.result.right c.sign_of.result.now c.tail_of-in-Two.result.now c.requires.plan c.requires.there c.node_at-node.ensures.value o.ensures.arity c.in-Two.is o.ensures.left o.ensures.right c.sign_of.ensures c.tail_of-in-Two.ensures in
    rw e (writes_after c.in_ok-put_head-in-Two.ensures.whole (writes_after c.in_ok-put_node-in-Two.ensures.whole (writes_after c.in_ok-put_all-in-Two.ensures.whole (writes_after c.in_ok-put_node-in-Two-2.ensures.whole c.put_all-in-Two-2.ensures))))
