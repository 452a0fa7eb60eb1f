-- Products of numbers of these sizes.
use Rattle.std.proofs.Common.{ℕ, ◌*◌, ◌^◌, ◌≤◌, arith}
use Rattle.std.proofs.Math.Nat.{mul-le-mul_left, mul-le-mul_right}
use Rattle.dsv_reader.specs.Limits.{greatest_cost}

product-small : (a b m n : ℕ) → a ≤ m → b ≤ n → a * b ≤ m * n
product-small a b m n h k = let l : a * b ≤ m * b = mul-le-mul_right b h in let r : m * b ≤ m * n = mul-le-mul_left m k in omega (arith, l, r)

pub cost-small : (cost times : ℕ) → cost ≤ greatest_cost → times ≤ 2 ^ 33 → cost * times ≤ greatest_cost * 2 ^ 33
cost-small cost times h k = product-small cost times greatest_cost (2 ^ 33) h k

pub ruleset sizes = (cost-small)
