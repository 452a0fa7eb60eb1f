-- The limits of terms.
use Rattle.std.specs.Prelude.{ℕ}

-- the most bits of a term
abbrev pub max_width : ℕ
max_width = 128
