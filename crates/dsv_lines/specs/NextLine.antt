-- The next line of a text.
use Rattle.std.specs.Prelude.{◌≡◌, ℕ, ◌+◌, List, Option, Some, None, Result, Ok, Err}
use Rattle.dsv_lines.specs.Pieces.{unended, line, LinesLeft}
use Rattle.dsv_lines.specs.declared.lines.Line.{Line}

-- The old text begins with this line and goes on with the new one, or it has no line.
abbrev pub IsNextLine : LinesLeft → Option Line → LinesLeft → Type 0
IsNextLine old (Some l) new =
    (old ≡ record { lines = line l.text.now new.lines; number = l.number })
    × (new.number ≡ l.number + 1)
IsNextLine old None new = (new ≡ old) × (bytes : List ℕ) × (old.lines ≡ unended bytes)

-- The same for a reader that refuses a text without a line, by the number of the line.
abbrev pub IsNextOr : {E : Type 0} → (ℕ → E) → LinesLeft → Result Line E → LinesLeft → Type 0
IsNextOr missing old (Ok l) new =
    (old ≡ record { lines = line l.text.now new.lines; number = l.number })
    × (new.number ≡ l.number + 1)
IsNextOr missing old (Err why) new = (new ≡ old) × (why ≡ missing old.number)
    × (bytes : List ℕ) × (old.lines ≡ unended bytes)
