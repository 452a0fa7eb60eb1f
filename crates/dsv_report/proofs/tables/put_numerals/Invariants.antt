use Rattle.std.proofs.Common.{take}
use Rattle.std.specs.List.{flat_map}
use Rattle.dsv_base.specs.Taking.{Wrote}
use Rattle.dsv_base.specs.Text.{spaced_text}
use Rattle.dsv_integer.specs.Numerals.{integer_text}
use Rattle.dsv_report.proofs.tables.put_numerals.Given as goal

abbrev pub invariant-loop-number : goal.invariant-loop-number
invariant-loop-number g l = Wrote (g.K.Sink.seen l.fn.sink) (g.K.Sink.seen l.sink) (flat_map (spaced_text integer_text) (take l.number-index l.numbers))
