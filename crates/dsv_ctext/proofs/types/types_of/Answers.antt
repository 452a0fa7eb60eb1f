use Rattle.std.proofs.Common.{◌<◌, ap, set, ◌∙◌, refl, length, arith, rules}
use Rattle.dsv_ctext.specs.Plans.{node_type}
use Rattle.dsv_ctext.proofs.PlanTypes.{types_more}
use Rattle.dsv_ctext.proofs.types.types_of.Goals as goal

pub loop-i-preserved : goal.loop-i-preserved
loop-i-preserved c =
    let net = c.args.net.now in
    let i = c.loop-i.i in
    let types = c.loop-i.types in
    let made = c.node_type-made.result in
    let there : i < length net.nodes = omega (arith, c.loop-i-test.true, c.len-i-end.ensures.value) in
    let room : i < length types = search rules in
    types_more net types (set types i made) i made c.len-i-end.ensures.netlist there room c.loop-i.invariant (c.node_type-made.ensures ∙ ap (node_type net types i) c.node_at-node.ensures.value) refl
