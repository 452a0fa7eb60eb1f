-- Powers of two.
use Rattle.std.proofs.Common.{ℕ, ◌^◌, ◌≤◌, arith}
use Rattle.std.proofs.Math.Nat.{pow-le-pow_right}
use Rattle.dsv_word.specs.Width.{widest_word}

pub power_small : (n : ℕ) → n ≤ widest_word → 2 ^ n ≤ 2 ^ widest_word
power_small n h = pow-le-pow_right (omega arith) h
