-- The limits of candidates.
use Rattle.std.specs.Prelude.{ℕ, ◌^◌}

-- the most registers of a shape, and so the most coefficients of an inequality
abbrev pub most_registers : ℕ
most_registers = 16

-- the most inequalities
abbrev pub most_inequalities : ℕ
most_inequalities = 32

-- the greatest size of a coefficient
abbrev pub most_coefficient : ℕ
most_coefficient = 2 ^ 24

-- the most bits that the sizes of all coefficients take together
abbrev pub most_bit_lengths : ℕ
most_bit_lengths = 1024

-- the greatest size of a bound
abbrev pub most_bound : ℕ
most_bound = 2 ^ 60

-- the greatest depth
abbrev pub most_depth : ℕ
most_depth = 8
