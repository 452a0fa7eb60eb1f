use Rattle.std.proofs.Common.{take}
use Rattle.dsv_base.specs.Taking.{Wrote}
use Rattle.dsv_report.specs.CascadeTexts.{section_table_text}
use Rattle.dsv_report.specs.Lines.{numbered_lines}
use Rattle.dsv_report.proofs.cascades.put_findings.Given as goal

abbrev pub invariant-loop-section : goal.invariant-loop-section
invariant-loop-section g l = Wrote (g.K.Sink.seen l.fn.sink) (g.K.Sink.seen l.sink) (numbered_lines section_table_text 0 (take l.section l.findings))
