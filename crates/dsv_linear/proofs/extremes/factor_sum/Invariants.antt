use Rattle.std.proofs.Common.{◌≡◌, ◌+◌, ◌-◌, ◌≤◌, ◌⊎◌, length}
use Rattle.std.specs.Prelude.{Some}
use Rattle.dsv_linear.specs.Forms.{total, factor_term}
use Rattle.dsv_linear.proofs.extremes.factor_sum.Given as goal

abbrev pub invariant-loop-j : goal.invariant-loop-j
invariant-loop-j l = record {
  sum : total (l.j - l.from) (λ i. factor_term l.factor l.ranges l.form (l.from + i)) ≡ Some l.sum;
  place : (l.j ≡ l.from) ⊎ (l.j ≤ length l.ranges);
}
