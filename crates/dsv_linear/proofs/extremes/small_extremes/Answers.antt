use Rattle.std.proofs.Common.{ℕ, ◌-◌, subst, arith}
use Rattle.std.specs.Prelude.{IfSome}
use Rattle.dsv_linear.specs.SmallSums.{AreSums}
use Rattle.dsv_linear.proofs.Rests.{whole_answer}
use Rattle.dsv_linear.proofs.extremes.small_extremes.Goals as goal

pub returns : goal.returns
returns c =
    let e = c.len-long.ensures in
    whole_answer c.args.ranges.now c.args.form.now c.sums_between.result (omega (arith, e)) (omega (arith, e))
    (subst (λ (n : ℕ). IfSome c.sums_between.result (AreSums c.args.ranges.now c.args.form.now 0 (n - 0))) e c.sums_between.ensures)
