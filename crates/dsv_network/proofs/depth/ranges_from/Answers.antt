use Rattle.std.proofs.Common.{arith}
use Rattle.std.specs.Prelude.{None, Some}
use Rattle.dsv_network.specs.Gains.{ranges_from}
use Rattle.dsv_network.proofs.Loops.{sample_more}
use Rattle.dsv_network.proofs.depth.ranges_from.Goals as goal

pub loop-preserved : goal.loop-preserved
loop-preserved c =
    let nodes = c.args.nodes.now in
    let next = c.args.next.now in
    sample_more nodes next c.args.depth c.loop.counter c.loop.pass c.add_sample.new.pass c.loop.seen (Some c.in_ok-hulls_after.field-0) c.in-Words.now
    (ranges_from nodes next c.args.depth c.args.pass None) (omega arith) c.loop.invariant (grind (arith, c.in_ok-run.ensures.run, c.in-Words.is)) c.in_ok-run.ensures.pass (grind (arith, c.in_ok-hulls_after.ensures))
