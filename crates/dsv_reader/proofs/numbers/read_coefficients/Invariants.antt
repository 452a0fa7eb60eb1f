use Rattle.std.proofs.Common.{◌≡◌, drop, length, []}
use Rattle.dsv_reader.specs.Numbers.{coefficients_from}
use Rattle.dsv_reader.proofs.numbers.read_coefficients.Given as goal

abbrev pub invariant-loop-token : goal.invariant-loop-token
invariant-loop-token l = record {
  places : length l.list ≡ l.token-index;
  same : coefficients_from l.bytes (drop l.token-index l.numbers) l.list ≡ coefficients_from l.bytes l.numbers [];
}
