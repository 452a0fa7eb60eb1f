-- Lines made of parts.
use Rattle.std.specs.Prelude.{ℕ, List, decimal}
use Rattle.std.specs.Fmt.{signed_decimal}
use Rattle.dsv_word_lines.specs.declared.line_parts.LinePart.{LinePart}
use Rattle.dsv_word_lines.specs.declared.line_parts.LinePart.TheVariants as part

-- bytes as they stand, a count or a number in decimal
abbrev pub line_part_text : LinePart → List ℕ
line_part_text (part.Bytes bytes) = bytes.now
line_part_text (part.Count n) = decimal n
line_part_text (part.Number n) = signed_decimal n
