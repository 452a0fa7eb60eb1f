-- Candidates: sets of registers that fulfil inequalities.
use Rattle.std.specs.Prelude.{ℕ, ◌+◌, ◌-◌, ◌*◌, ◌^◌, ◌&&◌, ◌==◌, nat_le, Bool}
use Rattle.std.specs.Prelude.{List, [], ◌∷◌, length, ℤ, pos, ◌+ℤ◌, ◌*ℤ◌, ◌≤ℤ◌}
use Rattle.std.specs.List.{All, list_all}
use Rattle.std.specs.Int.Count.{count_leading_zeros}
use Rattle.std.specs.Int.RustNames.{unsigned_abs}
use Rattle.dsv_word.specs.Words.{lo, hi}
use Rattle.dsv_word.specs.Width.{widest_word}
use Rattle.dsv_template.specs.declared.candidate.Inequality.{Inequality}
use Rattle.dsv_template.specs.declared.candidate.Candidate.{Candidate}
use Rattle.dsv_template.specs.Limits.{most_coefficient, most_bound}
use Rattle.dsv_template.specs.Limits.{most_bit_lengths, most_depth}

-- ---- what a candidate says of registers
-- the sum of each coefficient times its register
abbrev pub combination : List ℤ → List ℤ → ℤ
combination [] registers = pos 0
combination (c ∷ cs) [] = pos 0
combination (c ∷ cs) (r ∷ rs) = c *ℤ r +ℤ combination cs rs

abbrev pub Fulfils : List ℤ → Inequality → Type 0
Fulfils registers i = combination i.coefficients.items registers ≤ℤ i.bound

-- the registers fulfil all inequalities
abbrev pub IsInSet : Candidate → List ℤ → Type 0
IsInSet candidate registers = All (Fulfils registers) candidate.inequalities.items

-- a word of some format: it has at most as many bits as the widest word
pub record IsSomeWord (v : ℤ) : Type 0 where
  pub low : lo widest_word ≤ℤ v
  pub high : v ≤ℤ hi widest_word

-- ---- what is asked of a candidate's numbers
-- how many bits the size of a number takes
abbrev pub bit_length : ℤ → ℕ
bit_length z = 64 - count_leading_zeros 64 (unsigned_abs z)

abbrev pub bit_lengths : List ℤ → ℕ
bit_lengths [] = 0
bit_lengths (c ∷ cs) = bit_length c + bit_lengths cs

abbrev pub all_bit_lengths : List Inequality → ℕ
all_bit_lengths [] = 0
all_bit_lengths (i ∷ is) = bit_lengths i.coefficients.items + all_bit_lengths is

abbrev pub is_small : ℤ → Bool
is_small c = nat_le (unsigned_abs c) most_coefficient

-- a coefficient for each register, none over 2^24 in size, and a bound that isn't over 2^60
abbrev pub is_fit_for : ℕ → Inequality → Bool
is_fit_for registers i = length i.coefficients.items == registers
    && list_all is_small i.coefficients.items && nat_le (unsigned_abs i.bound) most_bound

-- all inequalities are fit for so many registers, the sizes of all coefficients take at most 1,024
-- bits, and the depth is 1 to 8
abbrev pub is_shaped : ℕ → Candidate → Bool
is_shaped registers candidate = list_all (is_fit_for registers) candidate.inequalities.items
    && nat_le (all_bit_lengths candidate.inequalities.items) most_bit_lengths
    && nat_le 1 candidate.depth && nat_le candidate.depth most_depth

-- the greatest size of a coefficient times a register
abbrev pub most_entry : ℕ
most_entry = most_coefficient * 2 ^ (widest_word - 1)
