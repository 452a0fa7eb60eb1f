use Rattle.std.proofs.Common.{◌≡◌, ◌+◌, [], length}
use Rattle.dsv_state_file.specs.Reading.{rows_from}
use Rattle.dsv_state_file.proofs.reader.read_rows.Given as goal

abbrev pub invariant-loop-left : goal.invariant-loop-left
invariant-loop-left l = record {
  few : length l.grid + l.left ≡ l.states;
  rest : rows_from l.states l.left l.grid l.lines ≡ rows_from l.states l.states [] l.fn.lines;
}

abbrev pub decreases-loop-left : goal.decreases-loop-left
decreases-loop-left l = l.left
