-- What a step leads to: a place that can go on, or a refusal at its token.
use Rattle.std.proofs.Common.{◌≡◌, ℕ, ◌+◌, ◌-◌, ◌≤◌, ◌==◌, Bool, true, false, Option, Some, None, refl, arith}
use Rattle.std.specs.Prelude.{Result, Ok, Err}
use Rattle.std.proofs.lemmas.Bool.Decides.{nat_tests}
use Rattle.dsv_names.specs.declared.field.Field.TheVariants as field
use Rattle.dsv_names.specs.declared.block.Block.{Block}
use Rattle.dsv_names.specs.declared.want.Wanted.{Wanted}
use Rattle.dsv_names.specs.declared.want.Wanted.TheVariants as wanted
use Rattle.dsv_token.specs.declared.refusal.FileRefusal.{FileRefusal}
use Rattle.dsv_token.specs.declared.refusal.FileRefusal.TheVariants as refusal
use Rattle.dsv_token.specs.declared.token.Word.TheVariants as word
use Rattle.dsv_token.specs.declared.token.TokenKind.{TokenKind}
use Rattle.dsv_token.specs.declared.token.TokenKind.TheVariants as kind
use Rattle.dsv_token.specs.declared.token.Token.{Token}
use Rattle.dsv_syntax.specs.declared.entry.Label.{Label}
use Rattle.dsv_syntax.specs.declared.entry.Label.TheVariants as label
use Rattle.dsv_syntax.specs.declared.parser.Place.{Place}
use Rattle.dsv_syntax.specs.declared.parser.Place.TheVariants as place
use Rattle.dsv_syntax.specs.declared.parser.Parser.{Parser}
use Rattle.dsv_syntax.specs.Parsing.{is_closed, value_place, label_of, declaration_start, field_label, group_closed, step_at}

-- in a group a brace is open
abbrev pub CanGoOn : Place → ℕ → Type 0
CanGoOn place.Group depth = 1 ≤ depth
CanGoOn q depth = Unit {0}

-- the parser that a step gives can go on, or it refused this token
abbrev pub IsStep : Token → Result Parser FileRefusal → Type 0
IsStep t (Ok p) = CanGoOn p.place p.depth
IsStep t (Err r) = (w : Wanted) × (r ≡ refusal.Unexpected t.at w)

deeper : (q : Place) (depth : ℕ) → CanGoOn q depth → CanGoOn q (depth + 1)
deeper place.Group depth h = omega arith
deeper q depth h = tt

less_deep : (q : Place) (depth : ℕ) → (depth == 1) ≡ false → CanGoOn q depth → CanGoOn q (depth - 1)
less_deep place.Group depth e h = grind (arith, nat_tests)
less_deep q depth e h = tt

declared_steps : (x : Bool) (b : Block) (t : Token) (p : Parser) → IsStep t (declaration_start x b t p)
declared_steps true b t p = (wanted.Declaration, refl)
declared_steps false b t p = tt

declaration_steps : (k : TokenKind) (t : Token) (p : Parser) → IsStep t (step_at place.Declaration k t p)
declaration_steps (kind.Name (word.Block b)) t p = declared_steps (is_closed b p.closed) b t p
declaration_steps k t p = (wanted.Declaration, refl)

name_steps : (found : Option Label) (t : Token) (p : Parser) → IsStep t (field_label found t p)
name_steps (Some l) t p = tt
name_steps None t p = (wanted.FieldName, refl)

value_goes_on : (l : Label) (depth : ℕ) → CanGoOn (value_place l) depth
value_goes_on (label.Field field.B) depth = tt
value_goes_on (label.Field field.A) depth = tt
value_goes_on label.Passed depth = tt
value_goes_on l depth = tt

close_steps : (x : Bool) (t : Token) (p : Parser) → (p.depth == 1) ≡ x → CanGoOn p.place p.depth → IsStep t (Ok (group_closed x p))
close_steps true t p e h = tt
close_steps false t p e h = less_deep p.place p.depth e h

group_steps : (k : TokenKind) (t : Token) (p : Parser) → CanGoOn p.place p.depth → IsStep t (step_at place.Group k t p)
group_steps kind.Open t p h = deeper p.place p.depth h
group_steps kind.Close t p h = close_steps (p.depth == 1) t p refl h
group_steps kind.Number t p h = h
group_steps k t p h = h

equals_steps : (k : TokenKind) (t : Token) (p : Parser) → IsStep t (step_at place.FieldEquals k t p)
equals_steps kind.Equals t p = value_goes_on p.entry.label p.depth
equals_steps k t p = (wanted.Equals, refl)

pub step_leads : (q : Place) (k : TokenKind) (t : Token) (p : Parser) → CanGoOn p.place p.depth → IsStep t (step_at q k t p)
step_leads place.Declaration k t p h = declaration_steps k t p
step_leads place.BlockName (kind.Name w) t p h = tt
step_leads place.BlockName k t p h = (wanted.Name, refl)
step_leads place.BlockEquals kind.Equals t p h = tt
step_leads place.BlockEquals k t p h = (wanted.Equals, refl)
step_leads place.BlockOpen kind.Open t p h = tt
step_leads place.BlockOpen k t p h = (wanted.Open, refl)
step_leads place.FieldDot kind.Dot t p h = tt
step_leads place.FieldDot kind.Close t p h = tt
step_leads place.FieldDot k t p h = (wanted.FieldOrClose, refl)
step_leads place.FieldName k t p h = name_steps (label_of p.block k) t p
step_leads place.FieldEquals k t p h = equals_steps k t p
step_leads place.ListOpen kind.Open t p h = tt
step_leads place.ListOpen k t p h = (wanted.Open, refl)
step_leads place.ListNumber kind.Number t p h = tt
step_leads place.ListNumber kind.Close t p h = tt
step_leads place.ListNumber k t p h = (wanted.NumberOrClose, refl)
step_leads place.ListComma kind.Comma t p h = tt
step_leads place.ListComma kind.Close t p h = tt
step_leads place.ListComma k t p h = (wanted.CommaOrClose, refl)
step_leads place.Number kind.Number t p h = tt
step_leads place.Number k t p h = (wanted.Number, refl)
step_leads place.Value kind.Number t p h = tt
step_leads place.Value (kind.Name w) t p h = tt
step_leads place.Value kind.Open t p h = omega arith
step_leads place.Value k t p h = (wanted.Value, refl)
step_leads place.Group k t p h = group_steps k t p h
step_leads place.FieldComma kind.Comma t p h = tt
step_leads place.FieldComma kind.Close t p h = tt
step_leads place.FieldComma k t p h = (wanted.CommaOrClose, refl)
step_leads place.Semicolon kind.Semicolon t p h = tt
step_leads place.Semicolon k t p h = (wanted.Semicolon, refl)
