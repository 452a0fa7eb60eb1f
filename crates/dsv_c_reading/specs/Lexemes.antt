-- The tokens of a text of C, in the part of the language that controllers are written in. Numbers
-- in parentheses are sections of ISO/IEC 9899:1999.
--
-- The next token is the longest that can be one (6.4). White space and comments stand between
-- tokens (6.4.9). A text in which something else stands has no tokens here.
use Rattle.std.specs.Prelude.{ℕ, Bool, false, ◌==◌, ◌&&◌, ◌||◌, if◌then◌else◌}
use Rattle.std.specs.Prelude.{List, [], ◌∷◌, ◌++◌, Option, Some, None, codes}
use Rattle.std.specs.List.{list_any}
use Rattle.std.specs.Option.{option_and_then}
use Rattle.std.specs.Str.{byte}
use Rattle.dsv_text.specs.Bytes.{is_letter, is_digit}
use Rattle.dsv_text.specs.Digits.{digits_value}
use Rattle.dsv_lines.specs.Numerals.{is_numeral}
use Rattle.dsv_c_reading.specs.Machines.{Gone, gone, steps}

pub data Lexeme : Type 0 where
  -- a keyword (6.4.1) or an identifier (6.4.2)
  Word : List ℕ → Lexeme
  -- a decimal constant (6.4.4.1), or 0
  Digits : ℕ → Lexeme
  -- a punctuator of one byte (6.4.6)
  Mark : ℕ → Lexeme
  -- the punctuator "->"
  Points : Lexeme
  -- a line of the preprocessor, from after its # to its end (6.10)
  Line : List ℕ → Lexeme

-- what stands open before a byte
pub data Open : Type 0 where
  nothing : Open
  -- the bytes of a word or a number so far
  word : List ℕ → Open
  mark : ℕ → Open
  -- a comment, and whether a star is before the byte
  comment : Bool → Open
  line : List ℕ → Open

-- ---- bytes
abbrev pub is_space : ℕ → Bool
is_space b = b == 32 || b == 10

abbrev pub is_word_byte : ℕ → Bool
is_word_byte b = is_letter b || is_digit b

abbrev pub is_punctuator : ℕ → Bool
is_punctuator b = list_any (λ c. b == c) (codes "(){}[];,-+*/&^<=?:")

-- All bytes of punctuators that have more than one byte. Side by side, two of them may begin such a
-- one, or a comment, or a trigraph (5.2.1.1).
abbrev pub is_joining : ℕ → Bool
is_joining b = list_any (λ c. b == c) (codes "-+*/%&|^<>=!:.#?")

-- a backslash joins lines (5.1.1.2), and two question marks may begin a trigraph that is one
abbrev pub may_join_lines : ℕ → Bool
may_join_lines b = b == 92 || b == byte "?"

-- ---- from byte to byte
abbrev pub leaves : List Lexeme → Open → Option (Gone Open Lexeme)
leaves out now = Some (gone out now)

-- after these tokens, the byte stands where nothing is open
abbrev pub starts : List Lexeme → ℕ → Option (Gone Open Lexeme)
starts out b = if is_space b then leaves out nothing else
    if is_word_byte b then leaves out (word (b ∷ [])) else
    if b == byte "#" then leaves out (line []) else
    if is_punctuator b then leaves out (mark b) else None

-- what begins with a letter is a word; a number has no letters, and no 0 before other digits, which
-- would make it octal (6.4.4.1)
abbrev pub word_lexeme : List ℕ → Option Lexeme
word_lexeme [] = None
word_lexeme (b ∷ bs) = if is_letter b then Some (Word (b ∷ bs)) else
    if is_numeral (b ∷ bs) then Some (Digits (digits_value 0 (b ∷ bs))) else None

abbrev pub after_word : List ℕ → ℕ → Option (Gone Open Lexeme)
after_word w b = if is_word_byte b then leaves [] (word (w ++ b ∷ [])) else
    option_and_then (λ l. starts (l ∷ []) b) (word_lexeme w)

abbrev pub after_mark : ℕ → ℕ → Option (Gone Open Lexeme)
after_mark m b = if m == byte "-" && b == byte ">" then leaves (Points ∷ []) nothing else
    if m == byte "/" && b == byte "*" then leaves [] (comment false) else
    if is_joining m && is_joining b then None else
    starts (Mark m ∷ []) b

abbrev pub in_comment : Bool → ℕ → Option (Gone Open Lexeme)
in_comment star b = if star && b == byte "/" then leaves [] nothing else
    if may_join_lines b then None else leaves [] (comment (b == byte "*"))

abbrev pub in_line : List ℕ → ℕ → Option (Gone Open Lexeme)
in_line l b = if b == 10 then leaves (Line l ∷ []) nothing else leaves [] (line (l ++ b ∷ []))

abbrev pub lex_next : Open → ℕ → Option (Gone Open Lexeme)
lex_next nothing b = starts [] b
lex_next (word w) b = after_word w b
lex_next (mark m) b = after_mark m b
lex_next (comment star) b = in_comment star b
lex_next (line l) b = in_line l b

-- nothing is open at the end
abbrev pub lexed : Gone Open Lexeme → Option (List Lexeme)
lexed g = elim g.state [
  | nothing ↦ Some g.out
  | word w ↦ None
  | mark m ↦ None
  | comment star ↦ None
  | line l ↦ None
]

-- the tokens of a text, whose last line ends (5.1.1.2)
abbrev pub lexemes_of : List ℕ → Option (List Lexeme)
lexemes_of text = option_and_then lexed (steps lex_next nothing text)
