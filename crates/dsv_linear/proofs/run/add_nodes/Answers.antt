use Rattle.std.proofs.Common.{arith}
use Rattle.dsv_netlist.specs.declared.node.Node.TheVariants.{Input}
use Rattle.dsv_linear.proofs.Passes.{nodes_more}
use Rattle.dsv_linear.proofs.run.add_nodes.Goals as goal

pub loop-node-preserved : goal.loop-node-preserved
loop-node-preserved c =
    nodes_more c.args.start.now c.args.nodes.now Input c.loop-node.node-index c.args.point.now c.loop-node.point c.add_node.new.point (omega arith) c.loop-node.invariant c.in_ok-add_node.ensures
