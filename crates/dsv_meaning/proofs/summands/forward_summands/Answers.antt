use Rattle.std.proofs.Common.{◌≡◌, ◌<◌, length, arith, false, get_or, [], ◌∷◌, rules}
use Rattle.std.proofs.Math.IntN.{pos}
use Rattle.std.proofs.lemmas.Int.{to_z-of_z}
use mir.Syntax.{w64}
use mir.Val.{SFits}
use Rattle.dsv_meaning.specs.declared.summands.Summand.TheVariants.{Times}
use Rattle.dsv_meaning.proofs.Sizes.{first_is_small}
use Rattle.dsv_meaning.proofs.SummandLemmas.{forward_built}
use Rattle.dsv_meaning.proofs.summands.forward_summands.Goals as goal

pub push_product-requires-clause-small : goal.push_product-requires-clause-small
push_product-requires-clause-small c = rw c.b.ensures.same (first_is_small c.args.quantised.now c.b.ensures.quantised)

pub returns-clause-value : goal.returns-clause-value
returns-clause-value c =
    let some : 0 < length c.args.quantised.now.b = omega (arith, c.b.ensures.quantised.one_length, c.b.ensures.quantised.some) in
    let newest : SFits w64 c.args.newest.now = search rules in
    let first : SFits w64 (get_or c.b.result.now 0 (pos 0)) = search rules in
    let same : SFits w64 (get_or c.args.quantised.now.b 0 (pos 0)) = rw c.b.ensures.same at first in
    let a : c.push_product.new.summands.items ≡ Times false (get_or c.args.quantised.now.b 0 (pos 0)) c.args.newest.now ∷ [] = simp (to_z-of_z, c.new-summands.ensures, c.b.ensures.same) at c.push_product.ensures.value in
    rw (c.push_products.ensures.value, a, c.feed_forward.ensures.same) (forward_built c.args.quantised.now.b c.args.newest.now c.args.older.now some)
