-- Words of n bits in two's complement.
use Rattle.std.specs.Prelude.{◌≡◌, ℕ, ◌+◌, ◌-◌, ◌^◌, if◌then◌else◌, ℤ, pos}
use Rattle.std.specs.Prelude.{neg_ℤ, ◌+ℤ◌, ◌-ℤ◌, ◌*ℤ◌, ◌≤ℤ◌, ◌<ℤ◌, int_lt}
use Rattle.std.specs.Prelude.{List, take, slice_get, Some}
use Rattle.std.specs.List.{All}
use Rattle.std.specs.Int.{int_rem_euclid}
use Rattle.dsv_word.specs.declared.format.Format.{Format}
use Rattle.dsv_names.specs.declared.overflow_mode.OverflowMode.{OverflowMode}
use Rattle.dsv_names.specs.declared.overflow_mode.OverflowMode.TheVariants as overflow_mode

abbrev pub width : Format → ℕ
width format = format.int_bits + format.frac_bits

-- the least and the greatest word
abbrev pub lo : ℕ → ℤ
lo n = neg_ℤ (pos (2 ^ (n - 1)))

abbrev pub hi : ℕ → ℤ
hi n = pos (2 ^ (n - 1)) -ℤ pos 1

-- v is a word of the format
pub record IsWord (format : Format) (v : ℤ) : Type 0 where
  pub low : lo (width format) ≤ℤ v
  pub high : v ≤ℤ hi (width format)

-- v as a word: by the rest of the division by 2^n, less 2^n where that is above the greatest word
abbrev pub wrapped_word : ℕ → ℤ → ℤ
wrapped_word n v = let rest = int_rem_euclid v (pos (2 ^ n)) in
    if int_lt rest (pos (2 ^ (n - 1))) then rest else rest -ℤ pos (2 ^ n)

abbrev pub saturated_word : ℕ → ℤ → ℤ
saturated_word n v = if int_lt v (lo n) then lo n else if int_lt (hi n) v then hi n else v

abbrev pub fit : OverflowMode → ℕ → ℤ → ℤ
fit overflow_mode.Wrap n v = wrapped_word n v
fit overflow_mode.Saturate n v = saturated_word n v

-- ---- what these mean
-- w is the word that differs from v by a multiple of 2^n
pub record IsWrapped (n : ℕ) (v w : ℤ) : Type 0 where
  pub low : lo n ≤ℤ w
  pub high : w ≤ℤ hi n
  pub turns : (k : ℤ) × (v ≡ w +ℤ k *ℤ pos (2 ^ n))

-- w is the word nearest to v: v itself, or the end that it lies after
pub record IsNearest (n : ℕ) (v w : ℤ) : Type 0 where
  pub low : lo n ≤ℤ w
  pub high : w ≤ℤ hi n
  pub inside : lo n ≤ℤ v → v ≤ℤ hi n → w ≡ v
  pub below : v <ℤ lo n → w ≡ lo n
  pub above : hi n <ℤ v → w ≡ hi n

abbrev pub IsFitted : OverflowMode → ℕ → ℤ → ℤ → Type 0
IsFitted overflow_mode.Wrap n v w = IsWrapped n v w
IsFitted overflow_mode.Saturate n v w = IsNearest n v w

-- The first input that is no word of the format has this number, counted from 0, and is this.
pub record IsFirstOutside (format : Format) (inputs : List ℤ) (index : ℕ) (value : ℤ) : Type 0 where
  pub there : slice_get inputs index ≡ Some value
  pub outside : IsWord format value → ⊥
  pub before : All (IsWord format) (take index inputs)
