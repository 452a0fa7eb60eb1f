use Rattle.dsv_base.specs.Taking.{Wrote}
use Rattle.dsv_ctext.specs.ProgramTexts.{lines_from, member_line}
use Rattle.dsv_ctext.proofs.emit.put_member_lines.Given as goal

abbrev pub invariant-loop-k : goal.invariant-loop-k
invariant-loop-k g l = Wrote (g.K.Sink.seen l.fn.sink) (g.K.Sink.seen l.sink) (lines_from (member_line l.names l.word) 0 l.k)
