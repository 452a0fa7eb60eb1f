use Rattle.std.proofs.Common.{take}
use Rattle.std.specs.List.{All, flat_map}
use Rattle.dsv_base.specs.Taking.{Wrote}
use Rattle.dsv_lines.specs.Texts.{line_text}
use Rattle.dsv_certfile.specs.Texts.{inequality_line}
use Rattle.dsv_certfile.specs.Typed.{IsTypedInequality}
use Rattle.dsv_certfile.proofs.writer.put_each_inequality.Given as goal

abbrev pub invariant-loop-inequality : goal.invariant-loop-inequality
invariant-loop-inequality g l =
    record {
      wrote : Wrote (g.K.Sink.seen l.fn.sink) (g.K.Sink.seen l.sink) (flat_map (λ i. line_text (inequality_line i)) (take l.inequality-index l.inequalities));
      typed : All IsTypedInequality (take l.inequality-index l.inequalities);
    }
