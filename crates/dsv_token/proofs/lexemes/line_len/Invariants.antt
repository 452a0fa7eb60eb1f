use Rattle.std.proofs.Common.{◌≡◌, ◌+◌, drop}
use Rattle.dsv_token.specs.Lexing.{line_len}
use Rattle.dsv_token.proofs.lexemes.line_len.Given as goal

abbrev pub invariant-loop-byte : goal.invariant-loop-byte
invariant-loop-byte l = (l.count ≡ l.byte-index) × (l.count + line_len (drop l.byte-index l.text) ≡ line_len l.text)
