use Rattle.dsv_base.specs.Taking.{Wrote}
use Rattle.dsv_ctext.specs.Plans.{node_line}
use Rattle.dsv_ctext.specs.ProgramTexts.{lines_from}
use Rattle.dsv_ctext.proofs.lines.put_node_lines.Given as goal

abbrev pub invariant-loop-i : goal.invariant-loop-i
invariant-loop-i g l = Wrote (g.K.Sink.seen l.fn.sink) (g.K.Sink.seen l.sink) (lines_from (node_line l.plan.names l.plan.net.now) 0 l.i)
