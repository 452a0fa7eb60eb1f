-- Jury's table, which is the recursion of Schur and Cohn, and its verdict.
use Rattle.std.specs.Prelude.{ℕ, zero, suc, ◌+◌, ◌-◌, if◌then◌else◌, int_lt}
use Rattle.std.specs.Prelude.{List, length, ℤ, pos, ◌-ℤ◌, ◌*ℤ◌}
use Rattle.dsv_algebra.specs.Vectors.{Vector, vector_of}
use Rattle.dsv_table.specs.declared.verdict.TableVerdict.{TableVerdict}
use Rattle.dsv_table.specs.declared.verdict.TableVerdict.TheVariants as verdict

-- the row after a row l_0 to l_d
abbrev pub row_after : ℕ → Vector → Vector
row_after d l i = l 0 *ℤ l i -ℤ l d *ℤ l (d - i)

-- the verdict from this row on, which is l_0 to l_d and has this number
abbrev pub verdict_from : ℕ → ℕ → Vector → TableVerdict
verdict_from zero number l = verdict.Inside
verdict_from (suc d) number l =
    if int_lt (pos 0) (row_after (suc d) l 0)
    then verdict_from d (number + 1) (row_after (suc d) l)
    else verdict.NotInside (number + 1)

-- the verdict on the polynomial with these coefficients, which is row 0
abbrev pub verdict_of : List ℤ → TableVerdict
verdict_of cs = verdict_from (length cs - 1) 0 (vector_of cs)
