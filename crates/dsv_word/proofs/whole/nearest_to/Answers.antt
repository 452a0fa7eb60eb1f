use Rattle.std.proofs.Common.{◌∙◌, rules, ap}
use Rattle.std.proofs.Math.IntN.{pos, ◌+ℤ◌}
use Rattle.std.proofs.lemmas.Int.{to_z-of_z}
use mir.Syntax.{w128}
use mir.Val.{SFits, to_z, of_z}
use Rattle.dsv_word.proofs.Floors.{near_less, near_more}
use Rattle.dsv_word.proofs.whole.nearest_to.Goals as goal

pub returns-then-rest-unsigned_abs : goal.returns-then-rest-unsigned_abs
returns-then-rest-unsigned_abs c =
    let f : SFits w128 c.to_parts-num.result.0 = search rules in
    let g : SFits w128 c.to_parts-num.result.1 = search rules in
    let h : SFits w128 c.rem_euclid.result = search rules in
    let k : SFits w128 c.div_euclid-floor.result = search rules in
    let parts = c.to_parts-num.ensures in
    to_z-of_z w128 c.div_euclid-floor.result k
    ∙ near_less c.args.q.now.num _ _ _ _ c.args.q.now.den _ _ (to_z-of_z w128 c.to_parts-num.result.0 f ∙ parts.num) (to_z-of_z w128 c.to_parts-num.result.1 g ∙ parts.den)
    parts.lowest.positive c.div_euclid-floor.ensures (to_z-of_z w128 c.rem_euclid.result h ∙ c.rem_euclid.ensures.value)
    c.unsigned_abs-rest.ensures.value c.unsigned_abs.ensures.value c.if-rest-unsigned_abs.true

pub returns-else-rest-unsigned_abs : goal.returns-else-rest-unsigned_abs
returns-else-rest-unsigned_abs c =
    let f : SFits w128 c.to_parts-num.result.0 = search rules in
    let g : SFits w128 c.to_parts-num.result.1 = search rules in
    let h : SFits w128 c.rem_euclid.result = search rules in
    let k : SFits w128 c.div_euclid-floor.result = search rules in
    let sum : SFits w128 (to_z w128 (of_z w128 c.div_euclid-floor.result) +ℤ pos 1) = search rules in
    let parts = c.to_parts-num.ensures in
    to_z-of_z w128 (to_z w128 (of_z w128 c.div_euclid-floor.result) +ℤ pos 1) sum
    ∙ ap (λ z. z +ℤ pos 1) (to_z-of_z w128 c.div_euclid-floor.result k)
    ∙ near_more c.args.q.now.num _ _ _ _ c.args.q.now.den _ _ (to_z-of_z w128 c.to_parts-num.result.0 f ∙ parts.num) (to_z-of_z w128 c.to_parts-num.result.1 g ∙ parts.den)
    parts.lowest.positive c.div_euclid-floor.ensures (to_z-of_z w128 c.rem_euclid.result h ∙ c.rem_euclid.ensures.value)
    c.unsigned_abs-rest.ensures.value c.unsigned_abs.ensures.value c.if-rest-unsigned_abs.false
