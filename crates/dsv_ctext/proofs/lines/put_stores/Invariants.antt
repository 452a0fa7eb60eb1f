use Rattle.dsv_base.specs.Taking.{Wrote}
use Rattle.dsv_ctext.specs.Plans.{store_of}
use Rattle.dsv_ctext.specs.ProgramTexts.{lines_from}
use Rattle.dsv_ctext.proofs.lines.put_stores.Given as goal

abbrev pub invariant-loop-k : goal.invariant-loop-k
invariant-loop-k g l = Wrote (g.K.Sink.seen l.fn.sink) (g.K.Sink.seen l.sink) (lines_from (store_of l.plan.names l.plan.net.now) 0 l.k)
