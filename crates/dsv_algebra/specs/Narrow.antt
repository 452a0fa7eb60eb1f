-- Numbers that don't pass a bound.
use Rattle.std.specs.Prelude.{ℕ, ◌^◌, Bool, nat_lt, if◌then◌else◌, Option, Some, None, ℤ}
use Rattle.std.specs.Int.RustNames.{unsigned_abs}

-- the least size that is too wide
abbrev pub narrow_limit : ℕ
narrow_limit = 2 ^ 126

-- less than 2^126 in size
abbrev pub is_narrow : ℤ → Bool
is_narrow z = nat_lt (unsigned_abs z) narrow_limit

-- the number, where it is less than 2^126 in size
abbrev pub narrow_of : ℤ → Option ℤ
narrow_of z = if is_narrow z then Some z else None
