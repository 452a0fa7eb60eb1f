use Rattle.std.proofs.Common.{ap, set, SFits, arith, rules}
use Rattle.std.specs.Int.{w128}
use Rattle.std.proofs.lemmas.Int.{to_z-of_z}
use Rattle.dsv_netlist.proofs.RunTurns.{NodesAt, nodes_more}
use Rattle.dsv_netlist.proofs.step.run_nodes.Goals as goal

pub loop-i-preserved : goal.loop-i-preserved
loop-i-preserved c =
    let i = c.loop-i.invariant in
    let before : NodesAt c.args.format.now c.args.registers.now c.args.x.now c.args.nodes.now c.loop-i.i c.loop-i.values c.loop-i.exact.items = record { same = i.same; safe = i.safe; bounded = i.bounded } in
    let fits : SFits w128 c.value_of-value.result = search rules in
    let after = nodes_more c.args.format.now c.args.registers.now c.args.x.now c.args.nodes.now c.loop-i.i c.loop-i.values _ c.loop-i.exact.items _ c.value_of-value.result c.loop-i-test.true (omega arith) before c.value_of-value.ensures c.push_exact.ensures (ap (set c.loop-i.values c.loop-i.i) (to_z-of_z w128 c.value_of-value.result fits)) in
    record { same = after.same; safe = after.safe; bounded = after.bounded }
