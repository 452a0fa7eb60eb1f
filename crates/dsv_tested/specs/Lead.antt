-- For private contracts: the first number of a list.
use Rattle.std.specs.Prelude.{ℕ, List, ℤ, pos, slice_index_or}
use Rattle.std.specs.Int.RustNames.{unsigned_abs}

-- the size of the first number, 0 where there is none
abbrev pub lead_size : List ℤ → ℕ
lead_size cs = unsigned_abs (slice_index_or cs 0 (pos 0))
