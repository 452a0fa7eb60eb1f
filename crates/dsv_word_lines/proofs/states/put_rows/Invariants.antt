use Rattle.std.proofs.Common.{take}
use Rattle.dsv_base.specs.Taking.{Wrote}
use Rattle.dsv_word_lines.specs.WordLines.{row_lines}
use Rattle.dsv_word_lines.proofs.states.put_rows.Given as goal

abbrev pub invariant-loop-row : goal.invariant-loop-row
invariant-loop-row g l = Wrote (g.K.Sink.seen l.fn.sink) (g.K.Sink.seen l.sink) (row_lines (take l.row-index l.rows))
