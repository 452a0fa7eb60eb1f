-- The sides of a table as facts on its rows, and the verdict's bridge to them.
use Rattle.std.proofs.Common.{◌≡◌, ℕ, zero, suc, ◌+◌, ◌⊎◌, Bool, true, false, int_lt, inl, inr, refl, arith}
use Rattle.std.proofs.Math.IntN.{ℤ, pos}
use Rattle.std.proofs.lemmas.Int.{ints}
use lib.Signed.{◌<ℤ◌, ◌≤ℤ◌}
use Rattle.dsv_algebra.specs.Vectors.{Vector}
use Rattle.dsv_table.specs.Table.{row_after, verdict_from}
use Rattle.dsv_table.specs.declared.verdict.TableVerdict.TheVariants as verdict

-- Each row after this one, which is l 0 to l d, has a positive first number.
abbrev pub IsInside : ℕ → Vector → Type 0
IsInside zero l = Unit {0}
IsInside (suc d) l = (pos 0 <ℤ row_after (suc d) l 0) × IsInside d (row_after (suc d) l)

-- One of the rows after this one has a first number that isn't positive.
abbrev pub IsOutside : ℕ → Vector → Type 0
IsOutside zero l = ⊥
IsOutside (suc d) l =
    (row_after (suc d) l 0 ≤ℤ pos 0)
    ⊎ ((pos 0 <ℤ row_after (suc d) l 0) × IsOutside d (row_after (suc d) l))

-- what a verdict says of the rows
abbrev pub IsRead : ℕ → ℕ → Vector → Type 0
IsRead d number l =
    (IsInside d l × (verdict_from d number l ≡ verdict.Inside))
    ⊎ (IsOutside d l × (row : ℕ) × (verdict_from d number l ≡ verdict.NotInside row))

pub positive : (x : ℤ) → int_lt (pos 0) x ≡ true → pos 0 <ℤ x
positive x h = grind (arith, ints)

pub not_positive : (x : ℤ) → int_lt (pos 0) x ≡ false → x ≤ℤ pos 0
not_positive x h = grind (arith, ints)

pub either : (b : Bool) → (b ≡ true) ⊎ (b ≡ false)
either true = inl refl
either false = inr refl

-- The verdict tells on which side the rows are.
pub reads : (d number : ℕ) (l : Vector) → IsRead d number l
reads zero number l = inl (tt, refl)
reads (suc d) number l =
    let R = row_after (suc d) l in
    elim (either (int_lt (pos 0) (R 0))) [
      | inl p ↦ elim (reads d (number + 1) R) [
        | inl (h, e) ↦ inl ((positive (R 0) p, h), rw p e)
        | inr (h, row, e) ↦ inr (inr (positive (R 0) p, h), row, rw p e)
      ]
      | inr p ↦ inr (inl (not_positive (R 0) p), number + 1, rw p refl)
    ]
