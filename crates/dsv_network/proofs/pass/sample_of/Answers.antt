use Rattle.std.proofs.Common.{get_or, arith}
use Rattle.dsv_network.proofs.Loops.{walked_more, weights_more}
use Rattle.dsv_network.proofs.pass.sample_of.Goals as goal

pub with_node-requires-in-loop-node : goal.with_node-requires-in-loop-node
with_node-requires-in-loop-node c =
    let made = weights_more c.args.pass.now c.loop-node.walk c.in-Some.next (get_or c.args.nodes.now c.loop-node.node-index c.node-item.result) (grind (arith, c.in_ok-next.ensures, c.in-Some.is)) in
    let i = c.len-i.ensures in
    omega (arith, made, i)

pub loop-node-preserved : goal.loop-node-preserved
loop-node-preserved c =
    walked_more c.args.count c.args.pass.now c.args.nodes.now c.node-item.result c.loop-node.node-index c.loop-node.walk c.in-Some.next c.loop-node.ends c.in_ok-ends.ends (omega arith) c.loop-node.invariant
    (grind (arith, c.in_ok-next.ensures, c.in-Some.is)) (grind (arith, c.in_ok-ends.ensures.run, c.len-i.ensures)) (grind (arith, c.in_ok-ends.ensures.step, c.len-i.ensures))
