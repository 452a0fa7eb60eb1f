-- The texts of what a table says of a polynomial's roots.
use Rattle.std.specs.Prelude.{ℕ, ◌-◌, nat_lt, if◌then◌else◌, List, [], ◌++◌, length}
use Rattle.std.specs.Prelude.{take, drop, replicate, codes, Option, Some, None, ℤ}
use Rattle.dsv_base.specs.Text.{line_of}
use Rattle.dsv_integer.specs.Numerals.{integer_text}
use Rattle.dsv_table.specs.declared.finding.RootBounds.{RootBounds}
use Rattle.dsv_table.specs.declared.finding.TableFinding.{TableFinding}
use Rattle.dsv_table.specs.declared.verdict.TableVerdict.{TableVerdict}
use Rattle.dsv_table.specs.declared.verdict.TableVerdict.TheVariants as table
use Rattle.dsv_report.specs.Lines.{number_line}

-- all rows have a positive first number, or the first row that hasn't
abbrev pub verdict_text : TableVerdict → List ℕ
verdict_text table.Inside = codes "table inside\n"
verdict_text (table.NotInside row) = number_line (codes "table row ") row

-- digits with a point before the last five
abbrev pub with_point : List ℕ → List ℕ
with_point digits = if nat_lt 5 (length digits)
    then take (length digits - 5) digits ++ (codes "." ++ drop (length digits - 5) digits)
    else codes "0." ++ (replicate (5 - length digits) 48 ++ digits)

-- a count of hundred-thousandths
abbrev pub parts_text : ℤ → List ℕ
parts_text count = with_point (integer_text count)

-- between which numbers the size of the greatest root is; without a root there is no such line
abbrev pub root_text : Option RootBounds → List ℕ
root_text None = []
root_text (Some root) =
    codes "greatest root from " ++ (parts_text root.least
    ++ (codes " to " ++ (parts_text root.greatest ++ codes "\n")))

abbrev pub polynomial_text : List ℤ → List ℕ
polynomial_text = line_of integer_text (codes "polynomial")

-- the polynomial, what its table says, and the size of its greatest root
abbrev pub table_text : TableFinding → List ℕ
table_text found =
    polynomial_text found.poly ++ (verdict_text found.verdict ++ root_text found.root)
