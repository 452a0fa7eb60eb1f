use Rattle.std.proofs.Common.{◌≡◌, ◌-◌, ◌≤◌, drop, length}
use Rattle.dsv_token.specs.Lexing.{tokens_from, tokens_of, AreInOrder}
use Rattle.dsv_token.proofs.lexing.lex.Given as goal

abbrev pub invariant-pieces : goal.invariant-pieces
invariant-pieces l = record {
  within : l.at ≤ length l.text;
  same : tokens_from (drop l.at l.text) l.at 0 l.fresh l.tokens ≡ tokens_of l.text;
  placed : AreInOrder 0 l.at l.tokens;
}

abbrev pub decreases-pieces : goal.decreases-pieces
decreases-pieces l = length l.text - l.at
