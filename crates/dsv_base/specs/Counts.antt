-- Counts that a program keeps in 64 bits: they go up, and stand still at the last number that fits.
use Rattle.std.specs.Prelude.{◌≡◌, ℕ, ◌+◌, ◌-◌, ◌^◌, ◌<◌, ◌≤◌, ◌⊎◌, min}

-- the last number of a count
abbrev pub last_count : ℕ
last_count = 2 ^ 64 - 1

-- the count after n more
abbrev pub count_after : ℕ → ℕ → ℕ
count_after before n = min (before + n) last_count

-- The count went up, or it stands at its last number.
abbrev pub Rose : ℕ → ℕ → Type 0
Rose before after = (before < after) ⊎ (last_count ≤ after)

-- The count went up by n, or by less and stands at its last number.
pub record RoseBy (n before after : ℕ) : Type 0 where
  pub least : before ≤ after
  pub most : after ≤ before + n
  pub whole : (after ≡ before + n) ⊎ (last_count ≤ after)
