-- A text as tokens. Between them stand blanks, comments and lines that begin with `#`.
use Rattle.std.specs.Prelude.{ℕ, zero, suc, ◌+◌, ◌-◌, ◌≤◌, Bool, true, false, not}
use Rattle.std.specs.Prelude.{◌&&◌, ◌||◌, ◌==◌, if◌then◌else◌, List, [], ◌∷◌}
use Rattle.std.specs.Prelude.{◌++◌, take, drop, Option, Some, None, Result, Ok, Err}
use Rattle.dsv_text.specs.Bytes.{has_byte, is_blank, is_digit, is_letter}
use Rattle.dsv_fraction.specs.Number.{number_len}
use Rattle.dsv_token.specs.Names.{word_of}
use Rattle.dsv_token.specs.declared.refusal.FileRefusal.{FileRefusal}
use Rattle.dsv_token.specs.declared.refusal.FileRefusal.TheVariants as refusal
use Rattle.dsv_token.specs.declared.token.TokenKind.{TokenKind}
use Rattle.dsv_token.specs.declared.token.TokenKind.TheVariants as kind
use Rattle.dsv_token.specs.declared.token.Token.{Token}
use Rattle.dsv_token.specs.declared.lexemes.Lexeme.{Lexeme}
use Rattle.dsv_token.specs.declared.lexemes.Lexeme.TheVariants as lexeme

-- ---- bytes
abbrev pub open_brace : ℕ
open_brace = 123

abbrev pub close_brace : ℕ
close_brace = 125

abbrev pub equals_sign : ℕ
equals_sign = 61

abbrev pub comma : ℕ
comma = 44

abbrev pub semicolon : ℕ
semicolon = 59

abbrev pub line_feed : ℕ
line_feed = 10

abbrev pub hash_mark : ℕ
hash_mark = 35

abbrev pub star_mark : ℕ
star_mark = 42

abbrev pub point : ℕ
point = 46

abbrev pub slash : ℕ
slash = 47

abbrev pub is_name_byte : ℕ → Bool
is_name_byte b = is_letter b || is_digit b

-- any but a line feed
abbrev pub in_line : ℕ → Bool
in_line b = not (b == line_feed)

-- one of `{ } = , ;`
abbrev pub mark_of : ℕ → Option TokenKind
mark_of b =
    if b == open_brace then Some kind.Open else
    if b == close_brace then Some kind.Close else
    if b == equals_sign then Some kind.Equals else
    if b == comma then Some kind.Comma else
    if b == semicolon then Some kind.Semicolon else None

-- ---- lengths, each from the beginning of a text

-- of bytes of a class
abbrev pub run_len : (ℕ → Bool) → List ℕ → ℕ
run_len class [] = 0
run_len class (b ∷ bs) = elim (class b) [ true ↦ suc (run_len class bs) | false ↦ 0 ]

-- of a line without its line feed
abbrev pub line_len : List ℕ → ℕ
line_len text = run_len in_line text

-- of letters, digits and `_`
abbrev pub name_len : List ℕ → ℕ
name_len text = run_len is_name_byte text

-- of a comment to the end of its `*/`: so many bytes stand before the text, the last of them a star
-- or not
abbrev pub close_len : ℕ → Bool → List ℕ → Option ℕ
close_len before star [] = None
close_len before star (b ∷ bs) =
    elim (star && b == slash)
    [ true ↦ Some (before + 1) | false ↦ close_len (before + 1) (b == star_mark) bs ]

-- ---- the piece that a text begins with

abbrev pub comment_gap : Option ℕ → Lexeme
comment_gap None = lexeme.Bad
comment_gap (Some n) = lexeme.Gap n false

-- after a `/`: a comment to the line's end, or to the next `*/`
abbrev pub comment_of : List ℕ → Lexeme
comment_of text =
    if has_byte slash text then lexeme.Gap (1 + line_len text) false else
    if has_byte star_mark text then comment_gap (close_len 2 false (drop 1 text)) else lexeme.Bad

-- a letter, a digit, `_` or `.` begins the text, so that no number may end before it
abbrev pub is_joined : List ℕ → Bool
is_joined [] = false
is_joined (b ∷ bs) = is_name_byte b || b == point

-- the longest number; where there is none, a `.`, which no digit follows then
abbrev pub number_of : List ℕ → Lexeme
number_of text =
    let n = number_len text in
    if n == 0 then (if has_byte point text then lexeme.Found kind.Dot 1 else lexeme.Bad)
    else if is_joined (drop n text) then lexeme.Bad else lexeme.Found kind.Number n

abbrev pub name_of : List ℕ → Lexeme
name_of text = let n = name_len text in lexeme.Found (kind.Name (word_of (take n text))) n

-- a mark, or what else there is
abbrev pub mark_or : Option TokenKind → Lexeme → Lexeme
mark_or (Some k) other = lexeme.Found k 1
mark_or None other = other

-- `fresh`: nothing but blanks stands before the piece on its line
abbrev pub piece_of : Bool → List ℕ → Lexeme
piece_of fresh [] = lexeme.Bad
piece_of fresh (b ∷ bs) =
    let text = b ∷ bs in
    if is_blank b then lexeme.Gap 1 (fresh || b == line_feed) else
    if b == hash_mark then (if fresh then lexeme.Gap (line_len text) true else lexeme.Bad) else
    if b == slash then comment_of bs else
    if is_letter b then name_of text else
    mark_or (mark_of b) (number_of text)

-- ---- the whole text

-- what a piece at this offset, after these tokens, leads to
abbrev pub by_piece : ℕ → List Token → (ℕ → Bool → List Token → Result (List Token) FileRefusal)
    → Lexeme → Result (List Token) FileRefusal
by_piece at out next (lexeme.Gap len fresh) = next len fresh out
by_piece at out next (lexeme.Found k len) =
    next len false (out ++ record { kind = k; at = at; len = len } ∷ [])
by_piece at out next lexeme.Bad = Err (refusal.Token at)

-- the text from this offset on, its first `skip` bytes in a piece before
abbrev pub tokens_from : List ℕ → ℕ → ℕ → Bool → List Token → Result (List Token) FileRefusal
tokens_from [] at skip fresh out = Ok out
tokens_from (b ∷ bs) at (suc skip) fresh out = tokens_from bs (at + 1) skip fresh out
tokens_from (b ∷ bs) at zero fresh out =
    by_piece at out (λ n f o. tokens_from bs (at + 1) (n - 1) f o) (piece_of fresh (b ∷ bs))

-- the tokens, or the offset of the first piece that is none
abbrev pub tokens_of : List ℕ → Result (List Token) FileRefusal
tokens_of text = tokens_from text 0 0 true []

-- ---- places

-- the piece has a byte, and at most so many
abbrev pub LexemeFits : ℕ → Lexeme → Type 0
LexemeFits most (lexeme.Gap len fresh) = (1 ≤ len) × (len ≤ most)
LexemeFits most (lexeme.Found k len) = (1 ≤ len) × (len ≤ most)
LexemeFits most lexeme.Bad = Unit {0}

-- the token has a byte, and stands between two offsets
pub record IsWithin (start end : ℕ) (t : Token) : Type 0 where
  pub after : start ≤ t.at
  pub some_byte : 1 ≤ t.len
  pub inside : t.at + t.len ≤ end

-- no token begins before the end of the one before it
abbrev pub AreInOrder : ℕ → ℕ → List Token → Type 0
AreInOrder start end [] = Unit {0}
AreInOrder start end (t ∷ ts) = IsWithin start end t × AreInOrder (t.at + t.len) end ts
