use Rattle.std.proofs.Common.{ℕ, List, take}
use Rattle.std.specs.List.{flat_map}
use Rattle.dsv_base.specs.Taking.{Wrote}
use Rattle.dsv_system.specs.declared.rows.Row.{Row}
use Rattle.dsv_system.specs.RowViews.{row_of}
use Rattle.dsv_report.specs.Report.{output_text}
use Rattle.dsv_report.proofs.report.put_outputs.Given as goal

-- the output of a row
abbrev pub row_output : Row → List ℕ
row_output row = output_text (row_of row)

abbrev pub invariant-loop-row : goal.invariant-loop-row
invariant-loop-row g l = Wrote (g.K.Sink.seen l.fn.sink) (g.K.Sink.seen l.sink) (flat_map row_output (take l.row-index l.rows))
