use Rattle.std.proofs.Common.{◌<◌, ◌∙◌, refl, length}
use Rattle.dsv_blast.specs.Blast.{total}
use Rattle.dsv_blast.proofs.Wiring.{next-start, blast-start, next-at, blast-at}
use Rattle.dsv_blast.proofs.goal_formula.wire_nodes.Goals as goal

pub loop-node-init : goal.loop-node-init
loop-node-init c =
    let t = c.args.terms.now in
    let r = c.requires in
    record {
      known = next-start t c.args.places.now c.args.bits.now (total t.inputs) c.args.circuit.now c.nodes-node-items.ensures.terms r.places refl r.none r.no_bits;
      rest = blast-start t c.args.places.now c.args.bits.now (total t.inputs) c.args.circuit.now r.places refl r.none r.no_bits;
    }

pub loop-node-preserved : goal.loop-node-preserved
loop-node-preserved c =
    let t = c.args.terms.now in
    let places = c.args.places.now in
    let i = c.loop-node.node-index in
    let inside : i < length t.nodes = rw c.nodes-node-items.ensures.nodes at c.loop-node-test.true in
    let circuit = rw c.nodes-node-items.ensures.nodes at c.in_ok-word.ensures.circuit in
    let bits = rw c.nodes-node-items.ensures.nodes at c.in_ok-word.ensures.bits in
    let more = rw c.as_slice.ensures at c.in_ok-push.ensures in
    record {
      known = next-at t.inputs places c.loop-node.bits c.push.new.self t.nodes i c.loop-node.circuit c.node_bits.new.circuit c.in_ok-word.word inside c.nodes-node-items.ensures.terms.inputs circuit bits more c.loop-node.invariant.known;
      rest = blast-at places c.loop-node.bits c.push.new.self t.nodes i c.loop-node.circuit c.node_bits.new.circuit c.in_ok-word.word inside circuit bits more ∙ c.loop-node.invariant.rest;
    }
