use Rattle.std.proofs.Common.{◌≡◌, drop}
use Rattle.dsv_reader.specs.Numbers.{passed_over}
use Rattle.dsv_reader.proofs.numbers.passed_over.Given as goal

abbrev pub invariant-loop-token : goal.invariant-loop-token
invariant-loop-token l = passed_over l.bytes (drop l.token-index l.numbers) ≡ passed_over l.bytes l.numbers
