use Rattle.std.proofs.Common.{◌≡◌, ◌≤◌, drop}
use Rattle.dsv_text.specs.Digits.{digits_value}
use Rattle.dsv_lines.proofs.numbers.value_within.Given as goal

abbrev pub invariant-loop-byte : goal.invariant-loop-byte
invariant-loop-byte l = record {
  small : l.value ≤ l.limit;
  rest : digits_value l.value (drop l.byte-index l.digits) ≡ digits_value 0 l.digits;
}
