use Rattle.std.proofs.Common.{◌≡◌, ◌<◌, length, arith, false, get_or, [], ◌∷◌, rules}
use Rattle.std.proofs.Math.IntN.{pos}
use Rattle.std.proofs.lemmas.Int.{to_z-of_z}
use Rattle.std.proofs.lemmas.List.{take_rest}
use mir.Syntax.{w64}
use mir.Val.{SFits}
use Rattle.dsv_meaning.specs.declared.summands.Summand.TheVariants.{Times}
use Rattle.dsv_realise.proofs.Piecewise.{forward_built}
use Rattle.dsv_realise.proofs.summands.forward_summands.Goals as goal

pub returns-clause-value : goal.returns-clause-value
returns-clause-value c =
    let q = c.args.quantised.now in
    let some : 0 < length q.b = omega (arith, c.b-b.ensures.quantised.one_length, c.b-b.ensures.quantised.some) in
    let first : SFits w64 (get_or c.b-b.result.now 0 (pos 0)) = search rules in
    let same : SFits w64 (get_or q.b 0 (pos 0)) = rw c.b-b.ensures.same at first in
    let a : c.push.new.self.items ≡ Times false (get_or q.b 0 (pos 0)) c.args.newest ∷ [] = simp (to_z-of_z, c.new-summands.ensures, c.b-b.ensures.same) at c.push.ensures.items in
    rw (c.push_products.ensures.value, a, take_rest c.b-b.result.now 1, c.b-b.ensures.same) (forward_built q.b c.args.newest some)
