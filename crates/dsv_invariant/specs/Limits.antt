-- The size of a question over runs of any length.
use Rattle.std.specs.Prelude.{ℕ}

-- the number of samples whose formula's size counts: a step of the greatest depth and its base
abbrev pub unbounded_samples : ℕ
unbounded_samples = 9
