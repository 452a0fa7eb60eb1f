-- Numbers that are divided by powers of two, by shifts.
use Rattle.std.proofs.Common.{◌≡◌, ℕ, ◌^◌, refl}
use Rattle.std.specs.Int.{int_shr}
use Rattle.std.proofs.Math.IntN.{ℤ, pos, negsuc}
use Rattle.dsv_algebra.specs.Floor.{floor_of}

-- a shift gives the quotient, rounded down
pub shift_is : (v : ℤ) (bits : ℕ) → int_shr v bits ≡ floor_of v (2 ^ bits)
shift_is (pos a) bits = refl
shift_is (negsuc a) bits = refl

pub ruleset shifts = (shift_is)
