-- What is asked of each generated controller.
use Rattle.std.specs.Prelude.{ℕ}

-- over how many samples it may overflow
abbrev pub generated_samples : ℕ
generated_samples = 2

-- the most conflicts of a search
abbrev pub generated_conflicts : ℕ
generated_conflicts = 50000
