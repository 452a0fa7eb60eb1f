-- The limits of the numbers of a certificate's text.
use Rattle.std.specs.Prelude.{ℕ, ◌-◌, ◌^◌}

-- the greatest size of a number, where no other limit is said
abbrev pub greatest_whole : ℕ
greatest_whole = 2 ^ 127 - 1

-- the greatest size of a number of an inequality
abbrev pub greatest_entry : ℕ
greatest_entry = 2 ^ 63 - 1

-- the greatest id of a clause; the least is 1
abbrev pub greatest_id : ℕ
greatest_id = 2 ^ 64 - 1

-- the greatest size of a literal
abbrev pub greatest_literal : ℕ
greatest_literal = 2 ^ 31

abbrev pub greatest_depth : ℕ
greatest_depth = 2 ^ 32 - 1

-- the greatest depth of a gain, and of an offer that shows how far outputs are from those of exact
-- runs: so many samples after any words in the registers, or any differences in the box
abbrev pub most_gain_depth : ℕ
most_gain_depth = 16383

-- the most ranges of the box of such an offer: one for each register
abbrev pub most_box_ranges : ℕ
most_box_ranges = 16

-- the most samples of a job; it has one at least
abbrev pub most_samples : ℕ
most_samples = 64

-- the most bits of words whose certificates don't say the words' format
abbrev pub narrow_word_bits : ℕ
narrow_word_bits = 32

-- the most bits before the point in a format that a certificate says; the least is 1
abbrev pub greatest_int_bits : ℕ
greatest_int_bits = 48

-- the most bits after the point in a format that a certificate says
abbrev pub greatest_frac_bits : ℕ
greatest_frac_bits = 47

-- the most places of a form
abbrev pub most_places : ℕ
most_places = 8

-- the most places of the form of an ellipsoid; it has one at least
abbrev pub most_ellipsoid_states : ℕ
most_ellipsoid_states = 7

-- the greatest size of the number that bounds the outputs in an ellipsoid
abbrev pub greatest_bound : ℕ
greatest_bound = 2 ^ 62 - 1

-- the most coefficients of a polynomial: the order of a loop is at most 24
abbrev pub most_coefficients : ℕ
most_coefficients = 25

-- the most squares of a form
abbrev pub most_squares : ℕ
most_squares = 8

-- the most numbers of an inequality: its coefficients, and its bound
abbrev pub most_inequality_numbers : ℕ
most_inequality_numbers = 17
