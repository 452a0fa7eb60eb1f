use Rattle.std.proofs.Common.{◌≡◌, ◌+◌, drop}
use Rattle.dsv_text.specs.Digits.{digits_len}
use Rattle.dsv_text.proofs.digits.digits_len.Given as goal

abbrev pub invariant-loop-byte : goal.invariant-loop-byte
invariant-loop-byte l = (l.count ≡ l.byte-index) × (l.count + digits_len (drop l.byte-index l.text) ≡ digits_len l.text)
