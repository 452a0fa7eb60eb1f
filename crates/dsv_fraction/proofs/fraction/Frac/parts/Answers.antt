use Rattle.std.proofs.Common.{rules, ap}
use Rattle.std.proofs.Math.IntN.{ℤ, pos}
use Rattle.std.proofs.lemmas.Int.{to_z-of_z}
use lib.Signed.{lt_z}
use mir.Syntax.{w128}
use mir.Val.{SFits}
use Rattle.dsv_fraction.proofs.Lowest.{parts_of}
use Rattle.dsv_fraction.proofs.fraction.Frac.parts.Goals as goal

pub returns : goal.returns
returns c =
    let f : SFits w128 c.self.inside.num = search rules in
    let g : SFits w128 c.self.inside.den = search rules in
    parts_of _ c.self.inside.num c.self.inside.den _ _ _ c.self.invariant.1 c.self.view_is (simp to_z-of_z at c.unsigned_abs.ensures.value) (simp to_z-of_z at c.unsigned_abs-2.ensures.value)
    (ap (λ (t : ℤ). lt_z t (pos 0)) (to_z-of_z w128 c.self.inside.num f))
