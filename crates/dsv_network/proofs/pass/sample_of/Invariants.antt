use Rattle.dsv_network.proofs.Loops.{Walked}
use Rattle.dsv_network.proofs.pass.sample_of.Given as goal

abbrev pub invariant-loop-node : goal.invariant-loop-node
invariant-loop-node l = Walked l.count l.pass l.nodes l.node-index l.walk l.ends
