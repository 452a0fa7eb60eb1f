use Rattle.std.proofs.Common.{◌≡◌, ◌≤◌, ◌*◌, ◌^◌, drop}
use Rattle.std.proofs.Math.IntN.{◌+ℤ◌}
use Rattle.std.specs.Int.RustNames.{unsigned_abs}
use Rattle.dsv_ellipsoid.specs.Disturbance.{least_sum, greatest_sum}
use Rattle.dsv_ellipsoid.proofs.disturbance.product_sums.Given as goal

abbrev pub invariant-loop-i : goal.invariant-loop-i
invariant-loop-i l = record {
  low : l.low +ℤ least_sum (drop l.i l.coeffs) l.numbers ≡ least_sum l.coeffs l.numbers;
  high : l.high +ℤ greatest_sum (drop l.i l.coeffs) l.numbers ≡ greatest_sum l.coeffs l.numbers;
  low_small : unsigned_abs l.low ≤ l.i * 2 ^ 96;
  high_small : unsigned_abs l.high ≤ l.i * 2 ^ 96;
}
