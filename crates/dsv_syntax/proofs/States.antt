-- What was read of a file, at the places of the grammar.
use Rattle.std.proofs.Common.{◌≡◌, ℕ, List, [], ◌∷◌, ◌++◌, ap, ◌∙◌}
use Rattle.std.specs.Prelude.{Ok}
use Rattle.dsv_names.specs.declared.block.Block.{Block}
use Rattle.dsv_token.specs.declared.token.TokenKind.{TokenKind}
use Rattle.dsv_token.specs.declared.token.Token.{Token}
use Rattle.dsv_syntax.specs.declared.entry.Label.{Label}
use Rattle.dsv_syntax.specs.declared.entry.Entry.{Entry}
use Rattle.dsv_syntax.specs.declared.parser.Place.{Place}
use Rattle.dsv_syntax.specs.declared.parser.Place.TheVariants as place
use Rattle.dsv_syntax.specs.declared.parser.Closed.{Closed}
use Rattle.dsv_syntax.specs.declared.parser.Parser.{Parser}
use Rattle.dsv_text.specs.Stages.{◌>>=◌}
use Rattle.dsv_syntax.specs.Parsing.{blank_entry, step_at, parsed_from}

abbrev pub entry : Label → ℕ → ℕ → List Token → Entry
entry l dot at ns = record { label = l; dot = dot; place = at; numbers = ns }

-- no field is open
abbrev pub between : Place → Block → Closed → List Entry → Parser
between pl b c es = record { place = pl; block = b; closed = c; entry = blank_entry; depth = 0; entries = es }

-- a field is open, and so many groups are
abbrev pub within : Place → Block → Closed → List Entry → Entry → ℕ → Parser
within pl b c es e k = record { place = pl; block = b; closed = c; entry = e; depth = k; entries = es }

-- after a field
abbrev pub after_field : Block → Closed → List Entry → Entry → Parser
after_field b c es e = between place.FieldComma b c (es ++ e ∷ [])

-- a token that goes on
pub goes : (end : ℕ) (p q : Parser) (t : Token) (ts : List Token) (k : TokenKind) → t.kind ≡ k → step_at p.place k t p ≡ Ok q → parsed_from end p (t ∷ ts) ≡ parsed_from end q ts
goes end p q t ts k e f = ap (λ x. step_at p.place x t p >>= λ r. parsed_from end r ts) e ∙ ap (λ x. x >>= λ r. parsed_from end r ts) f
