-- Pseudo-random numbers: the linear congruential generator that the C standard gives as an example
-- of `rand`.
use Rattle.std.specs.Prelude.{ℕ, ◌+◌, ◌*◌, ◌/◌, ◌%◌, ◌^◌, ℤ, pos, ◌-ℤ◌}

-- the state after this one
abbrev pub next_state : ℕ → ℕ
next_state state = (1103515245 * state + 12345) % 2 ^ 32

-- the number that a state gives, below 2^15
abbrev pub number_of : ℕ → ℕ
number_of state = state / 65536 % 32768

-- the word of a state: its number as one of -32 to 31
abbrev pub word_of : ℕ → ℤ
word_of state = pos (number_of state % 64) -ℤ pos 32
