use Rattle.std.proofs.Common.{take}
use Rattle.std.specs.List.{flat_map}
use Rattle.dsv_base.specs.Taking.{Wrote}
use Rattle.dsv_report.specs.Forms.{numbers_line}
use Rattle.dsv_report.proofs.forms.put_rows.Given as goal

abbrev pub invariant-loop-row : goal.invariant-loop-row
invariant-loop-row g l =
    Wrote (g.K.Sink.seen l.fn.sink) (g.K.Sink.seen l.sink) (flat_map (λ row. numbers_line l.word (take l.form.d row)) (take l.row-index (take l.form.d l.form.rows)))
