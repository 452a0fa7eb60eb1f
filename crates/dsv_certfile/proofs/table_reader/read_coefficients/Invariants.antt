use Rattle.std.proofs.Common.{◌≡◌, []}
use Rattle.dsv_certfile.specs.Bodies.{coefficient_in, lines_from}
use Rattle.dsv_certfile.proofs.table_reader.read_coefficients.Given as goal

abbrev pub invariant-loop-left : goal.invariant-loop-left
invariant-loop-left l = lines_from coefficient_in l.left l.coefficients l.lines ≡ lines_from coefficient_in l.count [] l.fn.lines

abbrev pub decreases-loop-left : goal.decreases-loop-left
decreases-loop-left l = l.left
