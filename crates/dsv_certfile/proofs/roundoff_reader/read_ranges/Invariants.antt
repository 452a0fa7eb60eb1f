use Rattle.std.proofs.Common.{◌≡◌, []}
use Rattle.dsv_certfile.specs.Bodies.{range_in, lines_from}
use Rattle.dsv_certfile.proofs.roundoff_reader.read_ranges.Given as goal

abbrev pub invariant-loop-left : goal.invariant-loop-left
invariant-loop-left l = lines_from range_in l.left l.ranges l.lines ≡ lines_from range_in l.count [] l.fn.lines

abbrev pub decreases-loop-left : goal.decreases-loop-left
decreases-loop-left l = l.left
