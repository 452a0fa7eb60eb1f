use Rattle.std.proofs.Common.{◌≡◌, drop}
use Rattle.dsv_syntax.specs.Parsing.{start_after, parsed_from}
use Rattle.dsv_syntax.proofs.parsing.parse_after.Given as goal

-- the parser goes on from here as from the start on all
abbrev pub invariant-loop-token : goal.invariant-loop-token
invariant-loop-token l = parsed_from l.end l.parser (drop l.token-index l.tokens) ≡ parsed_from l.end (start_after l.fn.closed) l.tokens
