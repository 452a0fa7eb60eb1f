use Rattle.std.proofs.Common.{ℕ, List, take}
use Rattle.dsv_base.specs.Taking.{Wrote}
use Rattle.dsv_system.specs.declared.rows.Row.{Row}
use Rattle.dsv_system.specs.RowViews.{row_of}
use Rattle.dsv_report.specs.Lines.{numbered_lines}
use Rattle.dsv_report.specs.Report.{sample_text}
use Rattle.dsv_report.proofs.report.put_samples.Given as goal

-- the line of a row
abbrev pub row_text : ℕ → Row → List ℕ
row_text number row = sample_text number (row_of row)

abbrev pub invariant-loop-number : goal.invariant-loop-number
invariant-loop-number g l = Wrote (g.K.Sink.seen l.fn.sink) (g.K.Sink.seen l.sink) (numbered_lines row_text 0 (take l.number l.rows))
