-- Which widths a word may have.
use Rattle.std.specs.Prelude.{ℕ, ◌+◌, ◌≤◌}

-- the most bits that a word has
abbrev pub widest_word : ℕ
widest_word = 48

-- A word has at least one bit before the point, its sign, and 2 to `widest_word` bits in all.
abbrev pub IsLawful : ℕ → ℕ → Type 0
IsLawful int_bits frac_bits = (1 ≤ int_bits) × (2 ≤ int_bits + frac_bits)
    × (int_bits + frac_bits ≤ widest_word)
