use Rattle.std.proofs.Common.{arith}
use Rattle.dsv_netlist.specs.declared.node.Node.TheVariants.{Input}
use Rattle.dsv_roundoff.proofs.NoErrors.{multiples_next}
use Rattle.dsv_roundoff.proofs.multiples.multiples_of.Goals as goal

pub loop-node-preserved : goal.loop-node-preserved
loop-node-preserved c =
    multiples_next c.args.format.now c.args.nodes.now Input c.loop-node.node-index c.loop-node.says c.push.new.self c.is_multiple-is.result (omega arith) c.loop-node.invariant (grind arith) (grind arith)
