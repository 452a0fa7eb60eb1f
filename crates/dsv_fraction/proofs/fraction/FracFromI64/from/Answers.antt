use Rattle.std.proofs.Common.{rules, arith}
use Rattle.std.proofs.lemmas.Int.{to_z-of_z, ints}
use mir.Syntax.{w128}
use mir.Val.{SFits}
use Rattle.dsv_fraction.proofs.Powers.{whole_kept}
use Rattle.dsv_fraction.proofs.fraction.FracFromI64.from.Goals as goal

pub invariant_of-result : goal.invariant_of-result
invariant_of-result c =
    let a : SFits w128 c.from.result = search rules in
    simp to_z-of_z (whole_kept c.from.result (omega (arith, ints, c.ranges.value, c.from.ensures)))
