-- The text of lines: pieces joined by one space, and a line feed at the end of each line.
use Rattle.std.specs.Prelude.{◌≡◌, ℕ, ◌==◌, ◌&&◌, not, Bool, true, List, [], ◌∷◌}
use Rattle.std.specs.List.{All}
use Rattle.dsv_base.specs.Text.{line_of}
use Rattle.dsv_lines.specs.Pieces.{space, line_feed}

-- a line as its pieces, of which there is one at least
abbrev pub Line : Type 0
Line = List (List ℕ)

-- no space and no line feed
abbrev pub is_plain : List ℕ → Bool
is_plain [] = true
is_plain (b ∷ bs) = not (b == space) && (not (b == line_feed) && is_plain bs)

abbrev pub IsPlain : List ℕ → Type 0
IsPlain piece = is_plain piece ≡ true

-- pieces that can be told apart in a line
abbrev pub ArePlain : Line → Type 0
ArePlain = All IsPlain

-- a piece is written as it is
abbrev pub piece_text : List ℕ → List ℕ
piece_text piece = piece

-- the bytes of a line
abbrev pub line_text : Line → List ℕ
line_text [] = line_of piece_text [] []
line_text (piece ∷ pieces) = line_of piece_text piece pieces
