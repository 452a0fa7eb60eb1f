-- Jury's recursion, which is that of Schur and Cohn: whether a polynomial's roots are all inside
-- the unit circle.
use Rattle.std.specs.Prelude.{ℕ, zero, suc, ◌+◌, ◌-◌, ◌^◌, Bool, nat_le}
use Rattle.std.specs.Prelude.{if◌then◌else◌, List, length, map, ℤ, ◌-ℤ◌, ◌*ℤ◌}
use Rattle.std.specs.List.{list_any}
use Rattle.std.specs.Int.RustNames.{unsigned_abs}
use Rattle.dsv_algebra.specs.Vectors.{Vector, vector_of}
use Rattle.dsv_forms.specs.Refusals.{places}
use Rattle.dsv_jury.specs.CommonFactor.{lowest_terms}
use Rattle.dsv_jury.specs.declared.verdict.Jury.{Jury}
use Rattle.dsv_jury.specs.declared.verdict.Jury.TheVariants as verdict

-- the least size that an entry of a row may not have
abbrev pub row_limit : ℕ
row_limit = 2 ^ 62

-- of a row l_0 to l_d: |l_d| >= |l_0|
abbrev pub last_leads : ℕ → Vector → Bool
last_leads d l = nat_le (unsigned_abs (l 0)) (unsigned_abs (l d))

-- of a row l_0 to l_d: l_0 l_i - l_d l_(d-i)
abbrev pub cross_difference : ℕ → Vector → ℕ → ℤ
cross_difference d l i = l 0 *ℤ l i -ℤ l d *ℤ l (d - i)

-- those for i = 0 to d - 1
abbrev pub cross_differences : ℕ → List ℤ → List ℤ
cross_differences d row = map (cross_difference d (vector_of row)) (places d)

-- the row after a row l_0 to l_d, whose numbers have no common factor
abbrev pub row_after : ℕ → List ℤ → List ℤ
row_after d row = lowest_terms (cross_differences d row)

abbrev pub is_wide_entry : ℤ → Bool
is_wide_entry x = nat_le row_limit (unsigned_abs x)

-- an entry passes 2^62
abbrev pub is_wide : List ℤ → Bool
is_wide row = list_any is_wide_entry row

-- the verdict from this row on, which is l_0 to l_d and has this number
abbrev pub verdict_from : ℕ → ℕ → List ℤ → Jury
verdict_from zero number row = verdict.Inside
verdict_from (suc d) number row =
    if last_leads (suc d) (vector_of row) then verdict.NotInside number
    else if is_wide (row_after (suc d) row) then verdict.Wide (number + 1)
    else verdict_from d (number + 1) (row_after (suc d) row)

-- the verdict on the polynomial c_0 to c_N, which is row 0
abbrev pub jury_of : List ℤ → Jury
jury_of c = verdict_from (length c - 1) 0 c
