use Rattle.std.proofs.Common.{◌<◌, length, arith}
use Rattle.dsv_base.proofs.TakingLemmas.{writes_err}
use Rattle.dsv_ctext.specs.Plans.{node_line}
use Rattle.dsv_ctext.proofs.LineTexts.{line_wrote, line_cut}
use Rattle.dsv_ctext.proofs.lines.put_node_lines.Goals as goal

pub loop-i-preserved : goal.loop-i-preserved
loop-i-preserved g c = line_wrote (node_line c.args.plan.now.names c.args.plan.now.net.now) c.loop-i.i c.loop-i.invariant c.in_ok-put_node_line.ensures.whole

pub returns-in_err-put_node_line : goal.returns-in_err-put_node_line
returns-in_err-put_node_line g c =
    let there : c.loop-i.i < (length c.args.plan.now.net.now.nodes) = omega (arith, c.loop-i-test.true, c.len-i-end.ensures.value) in
    writes_err c.from_residual.ensures.0 (line_cut (node_line c.args.plan.now.names c.args.plan.now.net.now) c.loop-i.i (length c.args.plan.now.net.now.nodes) there c.loop-i.invariant c.in_err-put_node_line.ensures.cut)
