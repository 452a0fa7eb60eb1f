-- What a verdict of Jury's recursion means, apart from how common factors are found.
use Rattle.std.specs.Prelude.{◌≡◌, ◌⊎◌, ℕ, zero, suc, ◌+◌, ◌-◌, ◌<◌}
use Rattle.std.specs.Prelude.{true, false, List, length, ℤ, pos, ◌*ℤ◌}
use Rattle.std.specs.Int.{◌∣◌}
use Rattle.std.specs.Int.RustNames.{unsigned_abs}
use Rattle.dsv_algebra.specs.Vectors.{vector_of}
use Rattle.dsv_jury.specs.Jury.{last_leads, cross_difference, is_wide}
use Rattle.dsv_jury.specs.declared.verdict.Jury.{Jury}
use Rattle.dsv_jury.specs.declared.verdict.Jury.TheVariants as verdict

-- The row after a row l_0 to l_d: a positive factor times its numbers are the cross differences,
-- and each number that divides all of these divides the factor.
pub record IsNext (d : ℕ) (row next : List ℤ) : Type 0 where
  pub factor : ℕ
  pub positive : 0 < factor
  pub places : length next ≡ d
  pub same : (i : ℕ) → i < d → pos factor *ℤ vector_of next i ≡ cross_difference d (vector_of row) i
  pub greatest : (k : ℕ) → ((i : ℕ) → i < d
      → k ∣ unsigned_abs (cross_difference d (vector_of row) i)) → k ∣ factor

-- the verdict from this row on, which is l_0 to l_d and has this number
abbrev pub IsVerdictFrom : ℕ → ℕ → List ℤ → Jury → Type 0
IsVerdictFrom zero number row v = v ≡ verdict.Inside
IsVerdictFrom (suc d) number row v =
    ((last_leads (suc d) (vector_of row) ≡ true) × (v ≡ verdict.NotInside number))
    ⊎ ((last_leads (suc d) (vector_of row) ≡ false) × (next : List ℤ) × IsNext (suc d) row next ×
    (((is_wide next ≡ true) × (v ≡ verdict.Wide (number + 1)))
    ⊎ ((is_wide next ≡ false) × IsVerdictFrom d (number + 1) next v)))

-- the verdict on the polynomial c_0 to c_N
abbrev pub IsJury : List ℤ → Jury → Type 0
IsJury c v = IsVerdictFrom (length c - 1) 0 c v
