use Rattle.std.proofs.Common.{◌≡◌, ◌+◌, length}
use Rattle.dsv_certfile.specs.Bodies.{numbers_of, lines_from, rows_in}
use Rattle.dsv_certfile.proofs.falls.read_rows.Given as goal

abbrev pub invariant-loop-left : goal.invariant-loop-left
invariant-loop-left l = record {
  few : length l.rows + l.left ≡ l.count;
  rest : lines_from (numbers_of l.places) l.left l.rows l.lines ≡ rows_in l.places l.count l.fn.lines;
}

abbrev pub decreases-loop-left : goal.decreases-loop-left
decreases-loop-left l = l.left
