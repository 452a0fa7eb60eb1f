use Rattle.std.proofs.Common.{◌≡◌, ◌+◌, ◌≤◌, [], length}
use Rattle.dsv_fraction.specs.Ratio.{most_coefficients}
use Rattle.dsv_state_file.specs.Reading.{decimals_from}
use Rattle.dsv_state_file.proofs.vectors.read_decimals.Given as goal

abbrev pub invariant-loop-word : goal.invariant-loop-word
invariant-loop-word l = record {
  few : length l.vector + length l.words ≤ most_coefficients;
  rest : decimals_from l.line l.vector l.words ≡ decimals_from l.line [] l.fn.words;
}

abbrev pub decreases-loop-word : goal.decreases-loop-word
decreases-loop-word l = length l.words
