use Rattle.std.proofs.Common.{◌∙◌, ◌/◌, ◌*ℤ◌, ap, arith, sym, rules, pos, unsigned_abs, ℤ}
use Rattle.std.proofs.lemmas.Int.{to_z-of_z}
use mir.Syntax.{w128}
use mir.Val.{SFits}
use Rattle.dsv_delta.proofs.Heavy.{heavier, heavy, numerators_step}
use Rattle.dsv_delta.proofs.Multiples.{none_large, narrowed_only}
use Rattle.dsv_delta.proofs.denominators.numerators.Goals as goal

pub returns-in_err-number : goal.returns-in_err-number
returns-in_err-number c =
    let n : ℤ = c.fraction-item.result.num *ℤ pos (unsigned_abs c.args.common / c.fraction-item.result.den) in
    let large = none_large n (sym c.numerator.ensures ∙ c.in_err-number.was) in
    let moved = heavier (unsigned_abs c.args.common) c.args.fractions.now c.loop-fraction.fraction-index c.fraction-item.result c.loop-fraction.weight _ (search rules) c.fraction-item.is c.loop-fraction.invariant.heavy in
    rw c.from_residual.ensures (omega (arith, large, heavy _ _ _ _ moved))

pub returns-then-weight-ge-WEIGHT_LIMIT : goal.returns-then-weight-ge-WEIGHT_LIMIT
returns-then-weight-ge-WEIGHT_LIMIT c =
    let n : ℤ = c.fraction-item.result.num *ℤ pos (unsigned_abs c.args.common / c.fraction-item.result.den) in
    let fits : SFits w128 c.get.result = search rules in
    let is = narrowed_only n c.in_ok-number.number (sym c.in_ok-number.was ∙ c.numerator.ensures) in
    let size = simp to_z-of_z at c.unsigned_abs.ensures.value in
    let same = size ∙ ap unsigned_abs (c.get.ensures ∙ is) in
    let moved = heavier (unsigned_abs c.args.common) c.args.fractions.now c.loop-fraction.fraction-index c.fraction-item.result c.loop-fraction.weight _ (search rules) c.fraction-item.is c.loop-fraction.invariant.heavy in
    omega (arith, same, heavy _ _ _ _ moved)

pub loop-fraction-preserved : goal.loop-fraction-preserved
loop-fraction-preserved c =
    let n : ℤ = c.fraction-item.result.num *ℤ pos (unsigned_abs c.args.common / c.fraction-item.result.den) in
    let fits : SFits w128 c.get.result = search rules in
    let fits-2 : SFits w128 c.get-in-loop-fraction.result = search rules in
    let is = narrowed_only n c.in_ok-number.number (sym c.in_ok-number.was ∙ c.numerator.ensures) in
    let size = simp to_z-of_z at c.unsigned_abs.ensures.value in
    let same = size ∙ ap unsigned_abs (c.get.ensures ∙ is) in
    let pushed = simp to_z-of_z at c.push.ensures.items in
    record {
      places = search rules;
      small = omega arith;
      same = rw (pushed, c.get-in-loop-fraction.ensures, is) (numerators_step (unsigned_abs c.args.common) c.args.fractions.now c.loop-fraction.fraction-index c.fraction-item.result c.loop-fraction.out.items _ (search rules) c.fraction-item.is c.loop-fraction.invariant.same);
      heavy = rw same (heavier (unsigned_abs c.args.common) c.args.fractions.now c.loop-fraction.fraction-index c.fraction-item.result c.loop-fraction.weight _ (search rules) c.fraction-item.is c.loop-fraction.invariant.heavy);
    }
