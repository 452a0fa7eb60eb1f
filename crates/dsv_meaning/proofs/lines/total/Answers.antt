use Rattle.std.proofs.Common.{◌≡◌, ◌+◌, ◌*◌, ◌^◌, ◌∙◌, false, refl, arith, rules, to_z, of_z}
use Rattle.std.proofs.Math.IntN.{pos, neg_ℤ, ◌+ℤ◌}
use Rattle.std.proofs.lemmas.Int.{ints, to_z-of_z}
use lib.Signed.{◌≤ℤ◌}
use mir.Syntax.{w128}
use mir.Val.{SFits}
use Rattle.dsv_meaning.specs.declared.summands.Summand.TheVariants.{Times}
use Rattle.dsv_meaning.proofs.LineLemmas.{total_more, within}
use Rattle.dsv_meaning.proofs.Sizes.{between_fits}
use Rattle.dsv_meaning.proofs.lines.total.Goals as goal

pub loop-summand-preserved : goal.loop-summand-preserved
loop-summand-preserved c =
    let i = c.loop-summand.summand-index in
    let t = to_z w128 c.loop-summand.total-bits in
    let e = c.exact_summand-total.result in
    let part : SFits w128 e = search rules in
    let size = within e (2 ^ 111) c.exact_summand-total.ensures.small in
    let low : neg_ℤ (pos ((i + 1) * 2 ^ 111)) ≤ℤ (t +ℤ e) = omega (arith, ints, c.loop-summand.invariant.low, size.0) in
    let high : (t +ℤ e) ≤ℤ pos ((i + 1) * 2 ^ 111) = omega (arith, ints, c.loop-summand.invariant.high, size.1) in
    let fits : SFits w128 (t +ℤ e) = between_fits (t +ℤ e) (omega (arith, ints, low, c.loop-summand-test.true, c.requires.few)) (omega (arith, ints, high, c.loop-summand-test.true, c.requires.few)) in
    let value : to_z w128 (of_z w128 (t +ℤ to_z w128 (of_z w128 e))) ≡ t +ℤ e = rw (to_z-of_z w128 e part) (to_z-of_z w128 (t +ℤ e) fits) in
    record {
      same = rw value (total_more c.args.format.now c.args.summands.now i (Times false (pos 0) (pos 0)) t (t +ℤ e) e c.loop-summand-test.true c.exact_summand-total.ensures.value refl ∙ c.loop-summand.invariant.same);
      low = rw value low;
      high = rw value high;
    }
