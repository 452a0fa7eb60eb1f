use Rattle.std.proofs.Common.{take}
use Rattle.std.specs.List.{All, flat_map}
use Rattle.dsv_base.specs.Taking.{Wrote}
use Rattle.dsv_base.specs.Text.{spaced_text}
use Rattle.dsv_certfile.specs.Lawful.{IsLiteral}
use Rattle.dsv_certfile.proofs.output.put_clause.Given as goal
use Rattle.dsv_cnf.specs.Texts.{literal_piece}

abbrev pub invariant-loop-literal : goal.invariant-loop-literal
invariant-loop-literal g l =
    record {
      wrote : Wrote (g.K.Sink.seen l.fn.sink) (g.K.Sink.seen l.sink) (flat_map (spaced_text literal_piece) (take l.literal-index l.literals));
      typed : All IsLiteral (take l.literal-index l.literals);
    }
