use Rattle.std.proofs.Common.{◌≡◌, ◌+◌, length, [], ◌∷◌, ◌++◌, arith}
use Rattle.std.proofs.lemmas.Grind.{common_steps}
use Rattle.dsv_netlist.specs.Limits.{most_nodes, most_registers}
use Rattle.dsv_netlist.proofs.NodePlaces.{names-at, reads-at}
use Rattle.dsv_cascade.specs.Netlists.{moved}
use Rattle.dsv_cascade.proofs.JoinedNets.{names_more, reads_more}
use Rattle.dsv_cascade.proofs.SeriesLists.{mapped_after}
use Rattle.dsv_cascade.proofs.netlist.series_nodes.Goals as goal

pub node_after-requires-clause-names : goal.node_after-requires-clause-names
node_after-requires-clause-names c =
    let net = c.len-i-end.ensures.netlist in
    names_more (0 + c.loop-i.i) most_nodes c.node-node.result (omega (arith, net.few_nodes)) (names-at 0 c.args.second.now.nodes c.loop-i.i c.node-node.result net.backwards c.node-node.ensures)

pub node_after-requires-clause-reads : goal.node_after-requires-clause-reads
node_after-requires-clause-reads c =
    let net = c.len-i-end.ensures.netlist in
    let few = length c.args.second.now.next in
    reads_more few most_registers c.node-node.result net.few_registers (reads-at few c.args.second.now.nodes c.loop-i.i c.node-node.result net.registers c.node-node.ensures)

pub loop-i-preserved : goal.loop-i-preserved
loop-i-preserved c =
    let pushed : c.push.new.self.items ≡ c.loop-i.nodes.items ++ c.node_after.result ∷ [] = grind (arith, common_steps) in
    mapped_after (moved c.args.first.now) c.args.first.now.nodes c.args.second.now.nodes c.loop-i.nodes.items c.push.new.self.items 1 c.loop-i.i c.node-node.result c.node_after.result (omega arith) (omega arith) c.loop-i.invariant c.node-node.ensures c.node_after.ensures pushed
