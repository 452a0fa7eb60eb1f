-- Texts as lines, and lines as pieces.
use Rattle.std.specs.Prelude.{ℕ, ◌==◌, Bool, true, false, List, [], ◌∷◌, cond}
use Rattle.std.specs.Prelude.{Option, Some, None, slice_index_or}
use Rattle.std.specs.Borrow.{Bor}

abbrev pub space : ℕ
space = 32

abbrev pub line_feed : ℕ
line_feed = 10

-- ---- pieces
-- one byte more in front of the first piece
abbrev pub onto_first : ℕ → List (List ℕ) → List (List ℕ)
onto_first byte [] = (byte ∷ []) ∷ []
onto_first byte (piece ∷ pieces) = (byte ∷ piece) ∷ pieces

-- what stands between the spaces of a line: one piece more than it has spaces
abbrev pub pieces_of : List ℕ → List (List ℕ)
pieces_of [] = [] ∷ []
pieces_of (b ∷ bs) = cond (b == space) ([] ∷ pieces_of bs) (onto_first b (pieces_of bs))

-- the pieces of what is left of a line, none after the last piece
abbrev pub pieces_left : Option (Bor (List ℕ)) → List (List ℕ)
pieces_left None = []
pieces_left (Some text) = pieces_of text.now

-- a piece of a line; one that isn't there is empty
abbrev pub piece_at : List (List ℕ) → ℕ → List ℕ
piece_at pieces i = slice_index_or pieces i []

-- ---- lines
-- A text: its lines, each without its line feed, and at last what follows the last line feed,
-- which is no line.
pub data TextLines : Type 0 where
  unended : List ℕ → TextLines
  line : List ℕ → TextLines → TextLines

-- one byte more in front
abbrev pub onto_text : ℕ → TextLines → TextLines
onto_text byte (unended bytes) = unended (byte ∷ bytes)
onto_text byte (line bytes more) = line (byte ∷ bytes) more

-- the lines of a text
abbrev pub lines_of : List ℕ → TextLines
lines_of [] = unended []
lines_of (b ∷ bs) = cond (b == line_feed) (line [] (lines_of bs)) (onto_text b (lines_of bs))

-- what is left of a text, and the number of its first line
pub record LinesLeft : Type 0 where
  pub lines : TextLines
  pub number : ℕ

-- lines count from 1
abbrev pub all_lines : List ℕ → LinesLeft
all_lines bytes = record { lines = lines_of bytes; number = 1 }

-- no bytes are left
abbrev pub is_ended : TextLines → Bool
is_ended (unended []) = true
is_ended (unended (b ∷ bs)) = false
is_ended (line bytes more) = false
