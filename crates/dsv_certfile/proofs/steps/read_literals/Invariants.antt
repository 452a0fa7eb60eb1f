use Rattle.std.proofs.Common.{◌≡◌, [], length}
use Rattle.dsv_certfile.specs.Numerals.{literal_read}
use Rattle.dsv_certfile.specs.Steps.{entries_from}
use Rattle.dsv_certfile.proofs.steps.read_literals.Given as goal

abbrev pub invariant-loop-piece : goal.invariant-loop-piece
invariant-loop-piece l = entries_from literal_read l.literals.items l.pieces ≡ entries_from literal_read [] l.fn.pieces

abbrev pub decreases-loop-piece : goal.decreases-loop-piece
decreases-loop-piece l = length l.pieces
