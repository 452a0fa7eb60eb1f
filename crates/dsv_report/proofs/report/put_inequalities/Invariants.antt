use Rattle.std.proofs.Common.{take}
use Rattle.dsv_base.specs.Taking.{Wrote}
use Rattle.dsv_report.specs.Report.{inequalities_text}
use Rattle.dsv_report.proofs.report.put_inequalities.Given as goal

abbrev pub invariant-loop-inequality : goal.invariant-loop-inequality
invariant-loop-inequality g l =
    Wrote (g.K.Sink.seen l.fn.sink) (g.K.Sink.seen l.sink) (inequalities_text (take l.inequality-index l.inequalities))
