-- What is read of a text, line by line.
use Rattle.std.specs.Prelude.{◌≡◌, Result, Ok, Err}
use Rattle.dsv_lines.specs.Pieces.{LinesLeft}

-- what was read, and what is left of the text
pub record Reading (X : Type 0) : Type 0 where
  pub value : X
  pub left : LinesLeft

abbrev pub reading_of : {X : Type 0} → X → LinesLeft → Reading X
reading_of x ls = record { value = x; left = ls }

-- the result of a reader that moves on, and what is left of the text, are what is meant
abbrev pub Reads : {X E : Type 0} → Result X E → LinesLeft → Result (Reading X) E → Type 0
Reads (Ok x) left meant = meant ≡ Ok (reading_of x left)
Reads (Err why) left meant = meant ≡ Err why
