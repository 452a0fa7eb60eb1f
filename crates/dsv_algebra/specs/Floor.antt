-- The floor of a quotient.
use Rattle.std.specs.Prelude.{ℕ, ℤ, pos, ◌+ℤ◌, ◌*ℤ◌, ◌<ℤ◌, ◌≤ℤ◌}
use Rattle.std.specs.Int.{int_div_euclid}

-- w is the greatest whole number that is at most v / d, for a positive d.
pub record IsFloor (v : ℤ) (d : ℕ) (w : ℤ) : Type 0 where
  pub below : (w *ℤ pos d) ≤ℤ v
  pub above : v <ℤ ((w +ℤ pos 1) *ℤ pos d)

-- the greatest whole number that is at most v / d
abbrev pub floor_of : ℤ → ℕ → ℤ
floor_of v d = int_div_euclid v (pos d)
