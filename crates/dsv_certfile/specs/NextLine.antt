-- Scaffolding, which private contracts alone cite: the next line of a text.
use Rattle.std.specs.Prelude.{Result}
use Rattle.dsv_lines.specs.NextLine.{IsNextOr}
use Rattle.dsv_lines.specs.Pieces.{LinesLeft}
use Rattle.dsv_lines.specs.declared.lines.Line.{Line}
use Rattle.dsv_certfile.specs.Answers.{text_refusal}
use Rattle.dsv_certfile.specs.declared.fault.TextFault.TheVariants as fault
use Rattle.dsv_certfile.specs.declared.fault.TextRefusal.{TextRefusal}

-- The old text begins with this line and goes on with the new one, or it has no line.
abbrev pub IsNext : LinesLeft → Result Line TextRefusal → LinesLeft → Type 0
IsNext = IsNextOr (λ n. text_refusal n fault.End)
