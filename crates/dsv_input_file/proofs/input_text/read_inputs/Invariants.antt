use Rattle.std.proofs.Common.{◌≡◌, ◌+◌, ◌-◌, ◌≤◌, [], length, take, drop}
use Rattle.dsv_input_file.specs.InputTexts.{pieces_from, pieces, numbers_from, most_file_inputs}
use Rattle.dsv_input_file.proofs.input_text.read_inputs.Given as goal

abbrev pub invariant-loop-i : goal.invariant-loop-i
invariant-loop-i l = record {
  begun : l.start ≤ l.i;
  near : l.line ≤ l.i + 1;
  few : length l.found ≤ most_file_inputs;
  same : numbers_from (pieces_from l.line (take (l.i - l.start) (drop l.start l.bytes)) (drop l.i l.bytes)) l.found ≡ numbers_from (pieces l.bytes) [];
}
