-- How many lines a text has.
use Rattle.std.proofs.Common.{◌≡◌, ap, ℕ, zero, suc, List, ◌<◌, arith}
use Rattle.dsv_lines.specs.Pieces.{TextLines, unended, line, LinesLeft}

-- how many lines there are
abbrev pub line_count : TextLines → ℕ
line_count (unended bytes) = zero
line_count (line bytes more) = suc (line_count more)

pub fewer_lines : (old new : LinesLeft) (bytes : List ℕ) (n : ℕ) → old ≡ record { lines = line bytes new.lines; number = n }
    → line_count new.lines < line_count old.lines
fewer_lines old new bytes n e =
    let h : line_count old.lines ≡ suc (line_count new.lines) = ap (λ (l : LinesLeft). line_count l.lines) e in
    omega (arith, h)
