-- The numbers of a text, and the first reason for which it gives none.
use Rattle.std.specs.Prelude.{ℕ, ◌+◌, ◌==◌, ◌||◌, Bool, if◌then◌else◌, List, [], ◌∷◌, ◌++◌}
use Rattle.std.specs.Prelude.{length, ok_or, ℤ, Result, Ok, Err}
use Rattle.dsv_text.specs.Bytes.{is_blank}
use Rattle.dsv_text.specs.Stages.{◌>>=◌}
use Rattle.dsv_command.specs.Inputs.{comma, input_of}
use Rattle.dsv_input_file.specs.declared.refusal.InputsRefusal.{InputsRefusal}
use Rattle.dsv_input_file.specs.declared.refusal.InputsRefusal.TheVariants as refusal

-- the most numbers of a text
abbrev pub most_file_inputs : ℕ
most_file_inputs = 65536

-- ---- pieces
-- what stands between numbers: blanks and commas
abbrev pub is_between : ℕ → Bool
is_between byte = is_blank byte || byte == comma

-- a piece of a text, and its line; lines count from 1
pub record Piece : Type 0 where
  pub line : ℕ
  pub text : List ℕ

-- the line of the byte after this one, which is in that line
abbrev pub line_after : ℕ → ℕ → ℕ
line_after byte line = if byte == 10 then line + 1 else line

-- the piece of these bytes, where there are any
abbrev pub piece_of : ℕ → List ℕ → List Piece
piece_of line [] = []
piece_of line (b ∷ bs) = record { line = line; text = b ∷ bs } ∷ []

-- The pieces of the rest of a text. The rest begins in this line, and these bytes of its first
-- piece stand before it.
abbrev pub pieces_from : ℕ → List ℕ → List ℕ → List Piece
pieces_from line begun [] = piece_of line begun
pieces_from line begun (b ∷ bs) = if is_between b
    then piece_of line begun ++ pieces_from (line_after b line) [] bs
    else pieces_from line (begun ++ b ∷ []) bs

-- the pieces of a text
abbrev pub pieces : List ℕ → List Piece
pieces bytes = pieces_from 1 [] bytes

-- ---- numbers
-- the number of a piece that stands after so many numbers
abbrev pub number_after : ℕ → Piece → Result ℤ InputsRefusal
number_after count piece = if count == most_file_inputs then Err refusal.Many
    else ok_or (input_of piece.text) (refusal.Number piece.line)

-- the numbers of the pieces after those that were read already
abbrev pub numbers_from : List Piece → List ℤ → Result (List ℤ) InputsRefusal
numbers_from [] found = Ok found
numbers_from (piece ∷ more) found = number_after (length found) piece
    >>= λ number. numbers_from more (found ++ number ∷ [])

-- at least one number
abbrev pub some_numbers : List ℤ → Result (List ℤ) InputsRefusal
some_numbers [] = Err refusal.NoNumbers
some_numbers (number ∷ more) = Ok (number ∷ more)

-- the 1 to 65,536 numbers of a text, or the first fault
abbrev pub inputs_in : List ℕ → Result (List ℤ) InputsRefusal
inputs_in bytes = numbers_from (pieces bytes) [] >>= some_numbers
