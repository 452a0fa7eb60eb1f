-- Scaffolding, which private contracts alone cite: the inequalities of a candidate.
use Rattle.std.specs.Prelude.{◌≡◌, ℕ, ◌≤◌, List, [], Result, Ok, Err, slice_index_or}
use Rattle.std.specs.Prelude.{ℤ, pos}
use Rattle.std.specs.Int.RustNames.{unsigned_abs}
use Rattle.arrayvec.specs.ArrayVec.{ArrayVec}
use Rattle.dsv_template.specs.declared.candidate.Inequality.{Inequality}
use Rattle.dsv_lines.specs.Readings.{reading_of}
use Rattle.dsv_certfile.specs.Bodies.{inequality_in, lines_from}
use Rattle.dsv_certfile.specs.Limits.{greatest_entry}
use Rattle.dsv_lines.specs.Pieces.{LinesLeft}
use Rattle.dsv_certfile.specs.declared.fault.TextRefusal.{TextRefusal}

-- no number is too great for an inequality
abbrev pub AreEntries : List ℤ → Type 0
AreEntries numbers =
    (k : ℕ) → unsigned_abs (slice_index_or numbers k (pos 0)) ≤ greatest_entry

-- The result has the inequalities that are meant, and what is left of the text is what is meant; or
-- it is the refusal that is meant.
abbrev pub ReadsInequalities : ℕ → LinesLeft → Result (ArrayVec Inequality) TextRefusal
    → LinesLeft → Type 0
ReadsInequalities count old (Ok list) new =
    lines_from inequality_in count [] old ≡ Ok (reading_of list.items new)
ReadsInequalities count old (Err why) new = lines_from inequality_in count [] old ≡ Err why
