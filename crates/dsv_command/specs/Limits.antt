-- The limits of the numbers of options, and what holds where none are given.
use Rattle.std.specs.Prelude.{ℕ}

-- the most samples of a job
abbrev pub most_samples : ℕ
most_samples = 64

abbrev pub default_samples : ℕ
default_samples = 10

-- the most conflicts of a search
abbrev pub most_conflicts : ℕ
most_conflicts = 200000

abbrev pub default_conflicts : ℕ
default_conflicts = 50000

-- the most controllers that are generated
abbrev pub most_controllers : ℕ
most_controllers = 1000

abbrev pub default_controllers : ℕ
default_controllers = 40

-- the most digits of an option's number
abbrev pub most_number_digits : ℕ
most_number_digits = 10
