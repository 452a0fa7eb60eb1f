use Rattle.std.proofs.Common.{rules}
use Rattle.std.proofs.lemmas.Int.{to_z-of_z}
use mir.Syntax.{w128}
use mir.Val.{SFits}
use Rattle.dsv_fraction.proofs.Lowest.{kept}
use Rattle.dsv_fraction.proofs.fraction.Frac.of_sizes.Goals as goal

pub invariant_of-result : goal.invariant_of-result
invariant_of-result c =
    let a : SFits w128 c.with_sign.result = search rules in
    let b : SFits w128 c.with_sign-2.result = search rules in
    simp to_z-of_z (kept c.args.negative c.args.num c.args.den _ _ c.requires.coprime c.requires.narrow_num c.requires.narrow_den c.with_sign.ensures c.with_sign-2.ensures)
