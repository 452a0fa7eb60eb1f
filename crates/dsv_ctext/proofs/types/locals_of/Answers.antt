use Rattle.std.proofs.Common.{◌+◌, ◌<◌, ap, sym, set, ◌∙◌, refl, length, arith, rules}
use Rattle.dsv_ctext.specs.Plans.{locals_of_node}
use Rattle.dsv_ctext.proofs.PlanLocals.{locals_more, count_none}
use Rattle.dsv_ctext.proofs.types.locals_of.Goals as goal

pub loop-i-init : goal.loop-i-init
loop-i-init c = record {
  each = λ i h. absurd (omega arith);
  small = λ i h. absurd (omega arith);
  counts = ap (λ n. n + 1) c.registers-count.ensures ∙ sym (count_none c.args.net.now);
  few = omega (arith, c.registers-count.ensures, c.len-end.ensures.netlist.few_registers);
  long = search rules;
}

pub loop-i-preserved : goal.loop-i-preserved
loop-i-preserved c =
    let net = c.args.net.now in
    let i = c.loop-i.i in
    let locals = c.loop-i.locals in
    let count = c.loop-i.count in
    let there : i < length net.nodes = omega (arith, c.loop-i-test.true, c.len-end.ensures.value) in
    locals_more net i locals (set locals i count) count c.locals_of_node-count.result there c.len-end.ensures.netlist.few_nodes c.loop-i.invariant refl (c.locals_of_node-count.ensures.value ∙ ap locals_of_node c.node_at-node.ensures.value) c.locals_of_node-count.ensures.small
