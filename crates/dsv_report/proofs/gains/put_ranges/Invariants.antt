use Rattle.std.proofs.Common.{take}
use Rattle.dsv_base.specs.Taking.{Wrote}
use Rattle.dsv_report.specs.Gains.{range_text}
use Rattle.dsv_report.specs.Lines.{numbered_lines}
use Rattle.dsv_report.proofs.gains.put_ranges.Given as goal

abbrev pub invariant-loop-number : goal.invariant-loop-number
invariant-loop-number g l = Wrote (g.K.Sink.seen l.fn.sink) (g.K.Sink.seen l.sink) (numbered_lines range_text 0 (take l.number l.ranges))
