use Rattle.std.proofs.Common.{take}
use Rattle.std.specs.List.{All, flat_map}
use Rattle.dsv_base.specs.Taking.{Wrote}
use Rattle.dsv_lines.specs.Texts.{line_text}
use Rattle.dsv_certfile.specs.Texts.{numbers_line}
use Rattle.dsv_certfile.specs.Typed.{IsTypedRow}
use Rattle.dsv_certfile.proofs.output.put_each_row.Given as goal

abbrev pub invariant-loop-row : goal.invariant-loop-row
invariant-loop-row g l =
    record {
      wrote : Wrote (g.K.Sink.seen l.fn.sink) (g.K.Sink.seen l.sink) (flat_map (λ row. line_text (numbers_line l.word (take l.d row))) (take l.row-index l.rows));
      typed : All IsTypedRow (take l.row-index l.rows);
    }
