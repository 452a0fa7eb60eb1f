use Rattle.std.proofs.Common.{◌≡◌, [], length}
use Rattle.dsv_certfile.specs.Numerals.{id_of}
use Rattle.dsv_certfile.specs.Steps.{entries_from}
use Rattle.dsv_certfile.proofs.steps.read_ids.Given as goal

abbrev pub invariant-loop-piece : goal.invariant-loop-piece
invariant-loop-piece l = entries_from id_of l.ids.items l.pieces ≡ entries_from id_of [] l.fn.pieces

abbrev pub decreases-loop-piece : goal.decreases-loop-piece
decreases-loop-piece l = length l.pieces
