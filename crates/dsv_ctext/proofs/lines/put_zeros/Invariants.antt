use Rattle.dsv_base.specs.Taking.{Wrote}
use Rattle.dsv_ctext.specs.Plans.{init_line}
use Rattle.dsv_ctext.specs.ProgramTexts.{lines_from}
use Rattle.dsv_ctext.proofs.lines.put_zeros.Given as goal

abbrev pub invariant-loop-k : goal.invariant-loop-k
invariant-loop-k g l = Wrote (g.K.Sink.seen l.fn.sink) (g.K.Sink.seen l.sink) (lines_from (init_line l.names) 0 l.k)
