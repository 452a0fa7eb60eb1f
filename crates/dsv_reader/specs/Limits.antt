-- The limits of controller files.
use Rattle.std.specs.Prelude.{ℕ, ◌^◌}

-- the most coefficients of a list
abbrev pub most_coefficients : ℕ
most_coefficients = 9

-- the most digits of a whole number
abbrev pub most_digits : ℕ
most_digits = 18

-- both parts of a sample time are below this
abbrev pub time_limit : ℕ
time_limit = 2 ^ 62

-- the greatest clock, in cycles a second
abbrev pub greatest_clock : ℕ
greatest_clock = 1000000000000

-- the greatest cost, in cycles
abbrev pub greatest_cost : ℕ
greatest_cost = 10000
