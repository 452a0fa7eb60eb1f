use Rattle.std.proofs.Common.{◌≡◌, ◌+◌, drop}
use Rattle.dsv_token.specs.Lexing.{name_len}
use Rattle.dsv_token.proofs.lexemes.name_len.Given as goal

abbrev pub invariant-loop-byte : goal.invariant-loop-byte
invariant-loop-byte l = (l.count ≡ l.byte-index) × (l.count + name_len (drop l.byte-index l.text) ≡ name_len l.text)
