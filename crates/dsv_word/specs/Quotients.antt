-- Quotients that are made whole.
use Rattle.std.specs.Prelude.{◌≡◌, ℕ, ◌-◌, ◌*◌, ◌^◌, ◌==◌, if◌then◌else◌}
use Rattle.std.specs.Prelude.{MatchBool, Result, Ok, ℤ, pos, neg_ℤ, ◌+ℤ◌, ◌*ℤ◌}
use Rattle.dsv_algebra.specs.Floor.{IsFloor, floor_of}
use Rattle.dsv_fraction.specs.Ratio.{Ratio}
use Rattle.dsv_text.specs.Stages.{and_then}
use Rattle.dsv_fraction.specs.Arithmetic.{times, bounded_ratio}
use Rattle.dsv_fraction.specs.declared.fraction.TooWide.{TooWide}
use Rattle.dsv_names.specs.declared.rounding.Rounding.{Rounding}
use Rattle.dsv_names.specs.declared.rounding.Rounding.TheVariants as rounding

-- the least w with v ≤ w d
abbrev pub ceiling_of : ℤ → ℕ → ℤ
ceiling_of v d = neg_ℤ (floor_of (neg_ℤ v) d)

-- v / 2^f made whole
abbrev pub whole_shift : Rounding → ℕ → ℤ → ℤ
whole_shift rounding.Floor f v = floor_of v (2 ^ f)
whole_shift rounding.Ceil f v = ceiling_of v (2 ^ f)
whole_shift rounding.Nearest f v = if f == 0 then v else floor_of (v +ℤ pos (2 ^ (f - 1))) (2 ^ f)

-- n / d made whole; the nearest is the floor of n / d + 1/2
abbrev pub rounded_quotient : Rounding → ℤ → ℕ → ℤ
rounded_quotient rounding.Floor n d = floor_of n d
rounded_quotient rounding.Ceil n d = ceiling_of n d
rounded_quotient rounding.Nearest n d = floor_of (pos 2 *ℤ n +ℤ pos d) (2 * d)

-- the fraction q 2^f made whole, where no part of it in lowest terms passes 2^127
abbrev pub word_of : (ℤ → ℕ → ℤ) → ℕ → Ratio → Result ℤ TooWide
word_of whole f q = and_then (bounded_ratio (times q (record { num = pos (2 ^ f); den = 1 })))
    (λ r. Ok (whole (q.num *ℤ pos (2 ^ f)) q.den))

-- ---- what these mean
-- v <= w d < v + d
abbrev pub IsCeiling : ℤ → ℕ → ℤ → Type 0
IsCeiling v d w = IsFloor (neg_ℤ v) d (neg_ℤ w)

-- w is v / 2^f, made whole
abbrev pub IsShifted : Rounding → ℕ → ℤ → ℤ → Type 0
IsShifted rounding.Floor f v w = IsFloor v (2 ^ f) w
IsShifted rounding.Ceil f v w = IsCeiling v (2 ^ f) w
IsShifted rounding.Nearest f v w =
    MatchBool (f == 0) (w ≡ v) (IsFloor (v +ℤ pos (2 ^ (f - 1))) (2 ^ f) w)

-- w is n / d, made whole
abbrev pub IsRounded : Rounding → ℤ → ℕ → ℤ → Type 0
IsRounded rounding.Floor n d w = IsFloor n d w
IsRounded rounding.Ceil n d w = IsCeiling n d w
IsRounded rounding.Nearest n d w = IsFloor (pos 2 *ℤ n +ℤ pos d) (2 * d) w
