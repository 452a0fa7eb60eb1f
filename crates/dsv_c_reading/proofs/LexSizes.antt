-- The sizes of the numbers in a text.
use Rattle.std.proofs.Common.{ℕ, ◌-◌, ◌^◌, ◌<◌, ◌≤◌, arith}
use Rattle.std.specs.Int.RustNames.{unsigned_abs}
use Rattle.std.proofs.Math.Nat.{pow-le-pow_right}
use Rattle.std.proofs.lemmas.Int.{ints}
use Rattle.std.proofs.lemmas.Nat.{pow_pos}
use Rattle.dsv_netlist.proofs.Sizes.{within_size}
use Rattle.dsv_word.specs.Words.{lo, hi}

pub power_within : (n k : ℕ) → n ≤ k → 2 ^ n ≤ 2 ^ k
power_within n k h = let some : 0 < 2 = omega arith in pow-le-pow_right some h
