-- The limits of a state-space controller's file.
use Rattle.std.specs.Prelude.{ℕ}

-- the most states; there is one at least
abbrev pub most_states : ℕ
most_states = 8

-- the most bits before the point; the least is 1
abbrev pub greatest_int_bits : ℕ
greatest_int_bits = 48

abbrev pub greatest_frac_bits : ℕ
greatest_frac_bits = 47

-- the fewest bits of a word
abbrev pub least_width : ℕ
least_width = 2

-- the most bits of a word
abbrev pub greatest_width : ℕ
greatest_width = 48
