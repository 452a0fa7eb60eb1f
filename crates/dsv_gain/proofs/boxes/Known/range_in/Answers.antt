use Rattle.std.proofs.Common.{arith, sym}
use Rattle.dsv_netlist.specs.declared.node.Node.TheVariants.{Input}
use Rattle.dsv_gain.proofs.BoxLoops.{range_named, range_past}
use Rattle.dsv_gain.proofs.boxes.Known.range_in.Goals as goal

pub returns-then-i-nodes : goal.returns-then-i-nodes
returns-then-i-nodes c =
    let known = c.args.self.now in
    let nodes = c.args.nodes.now in
    let named = range_named known.input known.registers.now known.fitted.now nodes Input c.args.i (omega (arith, c.if-i-nodes.true)) in
    grind (arith, named, c.node_range.ensures, c.fits_before.ensures)

pub returns-else-i-nodes : goal.returns-else-i-nodes
returns-else-i-nodes c =
    let known = c.args.self.now in
    sym (range_past known.input known.registers.now known.fitted.now c.args.nodes.now c.args.i (omega (arith, c.if-i-nodes.false)))
