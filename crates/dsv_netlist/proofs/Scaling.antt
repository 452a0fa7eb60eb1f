-- Two to the number of bits after the point.
use Rattle.std.proofs.Common.{ℕ, ◌^◌, ◌<◌, ◌≤◌, arith}
use Rattle.std.proofs.Math.Nat.{pow-le-pow_right}
use Rattle.std.proofs.lemmas.Nat.{pow_pos}

pub power_small : (n : ℕ) → n ≤ 47 → 2 ^ n ≤ 2 ^ 47
power_small n h = pow-le-pow_right (omega arith) h

pub power_positive : (n : ℕ) → 0 < 2 ^ n
power_positive n = pow_pos n

pub ruleset powers = (power_small, power_positive)
