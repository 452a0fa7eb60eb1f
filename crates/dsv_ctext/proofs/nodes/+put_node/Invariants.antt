use Rattle.dsv_ctext.proofs.nodes.+put_node.Given as goal

abbrev pub decreases-put_node : goal.decreases-put_node
decreases-put_node g l = l.i
