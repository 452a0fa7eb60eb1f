use Rattle.std.proofs.Common.{◌≡◌, ◌+◌, drop, false}
use Rattle.dsv_token.specs.Lexing.{close_len}
use Rattle.dsv_token.proofs.lexemes.close_len.Given as goal

abbrev pub invariant-loop-byte : goal.invariant-loop-byte
invariant-loop-byte l = (l.count ≡ l.byte-index + 2) × (close_len l.count l.star (drop l.byte-index l.text) ≡ close_len 2 false l.text)
