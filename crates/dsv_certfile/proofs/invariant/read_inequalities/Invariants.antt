use Rattle.std.proofs.Common.{◌≡◌, ◌+◌, [], length}
use Rattle.dsv_certfile.specs.Bodies.{inequality_in, lines_from}
use Rattle.dsv_certfile.proofs.invariant.read_inequalities.Given as goal

abbrev pub invariant-loop-left : goal.invariant-loop-left
invariant-loop-left l = record {
  few : length l.inequalities.items + l.left ≡ l.count;
  rest : lines_from inequality_in l.left l.inequalities.items l.lines ≡ lines_from inequality_in l.count [] l.fn.lines;
}

abbrev pub decreases-loop-left : goal.decreases-loop-left
decreases-loop-left l = l.left
