use Rattle.dsv_ctext.proofs.Whole.{node_back, node_reads}
use Rattle.dsv_ctext.proofs.nodes.node_at.Goals as goal

pub returns-clause-back : goal.returns-clause-back
returns-clause-back c = node_back c.args.net.now c.args.i c.node.result c.len-count.ensures.netlist c.requires c.node.ensures

pub returns-clause-reads : goal.returns-clause-reads
returns-clause-reads c = node_reads c.args.net.now c.args.i c.node.result c.len-count.ensures.netlist c.requires c.node.ensures
