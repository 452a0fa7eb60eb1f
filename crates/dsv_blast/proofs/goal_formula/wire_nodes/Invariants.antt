use Rattle.std.proofs.Common.{◌≡◌, drop}
use Rattle.dsv_blast.specs.Blast.{blast_from, blast_of}
use Rattle.dsv_blast.proofs.Nodes.{IsNext}
use Rattle.dsv_blast.proofs.goal_formula.wire_nodes.Given as goal

abbrev pub invariant-loop-node : goal.invariant-loop-node
invariant-loop-node l = record {
  known : IsNext l.terms.inputs l.places l.bits (drop l.node-index l.terms.nodes) l.circuit;
  rest : blast_from l.places (drop l.node-index l.terms.nodes) l.circuit l.bits ≡ blast_of l.terms;
}
