use Rattle.std.proofs.Common.{take}
use Rattle.std.specs.List.{All, flat_map}
use Rattle.dsv_base.specs.Taking.{Wrote}
use Rattle.dsv_certfile.proofs.SquareLines.{pair_text, squares_of}
use Rattle.dsv_certfile.specs.Typed.{IsTypedRow}
use Rattle.dsv_certfile.proofs.writer.put_all_squares.Given as goal

abbrev pub invariant-loop-i : goal.invariant-loop-i
invariant-loop-i g l =
    record {
      wrote : Wrote (g.K.Sink.seen l.fn.sink) (g.K.Sink.seen l.sink) (flat_map (pair_text l.d) (take l.i (squares_of l.squares.count l.squares.weights l.squares.rows)));
      typed : All IsTypedRow (take l.i l.squares.rows);
    }
