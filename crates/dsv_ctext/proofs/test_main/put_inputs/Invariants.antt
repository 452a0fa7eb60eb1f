use Rattle.std.proofs.Common.{take}
use Rattle.std.specs.List.{flat_map}
use Rattle.dsv_base.specs.Taking.{Wrote}
use Rattle.dsv_ctext.proofs.RowTexts.{row_input}
use Rattle.dsv_ctext.proofs.test_main.put_inputs.Given as goal

abbrev pub invariant-loop-row : goal.invariant-loop-row
invariant-loop-row g l = Wrote (g.K.Sink.seen l.fn.sink) (g.K.Sink.seen l.sink) (flat_map row_input (take l.row-index l.rows))
