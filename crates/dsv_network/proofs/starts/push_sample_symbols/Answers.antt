use Rattle.std.proofs.Common.{arith}
use Rattle.dsv_network.proofs.Loops.{symbols_next}
use Rattle.dsv_network.proofs.starts.push_sample_symbols.Goals as goal

pub loop-node-preserved : goal.loop-node-preserved
loop-node-preserved c =
    symbols_next c.args.nodes.now c.node-item.result c.loop-node.node-index c.args.ranges.now c.loop-node.ranges c.push_first_range.new.ranges (omega arith) (grind arith) (grind arith)
