use Rattle.std.proofs.Common.{◌≡◌, ◌≤◌, drop, pos}
use Rattle.std.proofs.Math.IntN.{◌+ℤ◌}
use Rattle.dsv_ellipsoid.specs.Disturbance.{roughs}
use Rattle.dsv_ellipsoid.proofs.disturbance.rough_count.Given as goal

abbrev pub invariant-loop-i : goal.invariant-loop-i
invariant-loop-i l = record {
  same : pos l.count +ℤ roughs l.format.frac_bits (drop l.i l.coeffs) ≡ roughs l.format.frac_bits l.coeffs;
  few : l.count ≤ l.i;
}
