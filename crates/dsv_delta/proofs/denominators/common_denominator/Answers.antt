use Rattle.std.proofs.Common.{◌∙◌, ap, arith, sym, rules, pos, ℕ, take}
use Rattle.dsv_algebra.specs.Narrow.{narrow_of}
use Rattle.dsv_delta.proofs.Multiples.{common_next, lcm_grows}
use Rattle.dsv_delta.specs.Deltas.{common}
use Rattle.dsv_delta.proofs.denominators.common_denominator.Goals as goal

pub loop-fraction-preserved : goal.loop-fraction-preserved
loop-fraction-preserved c =
    let next = common_next c.args.fractions.now c.loop-fraction.fraction-index c.fraction-item.result (search rules) c.fraction-item.is in
    let old : ℕ = common (take c.loop-fraction.fraction-index c.args.fractions.now) in
    record {
      positive = omega (arith, next, lcm_grows old c.fraction-item.result.den c.loop-fraction.invariant.positive c.multiple-common.ensures.positive, c.loop-fraction.invariant.positive);
      same = c.multiple-common.ensures.value old c.loop-fraction.invariant.positive c.loop-fraction.invariant.same ∙ ap (λ n. narrow_of (pos n)) (sym next);
    }
