use Rattle.std.proofs.Common.{rules}
use Rattle.std.proofs.lemmas.Int.{to_z-of_z}
use mir.Syntax.{w64}
use mir.Val.{SFits}
use Rattle.dsv_quantiser.proofs.Listing.{in_words_meant, is_quantised}
use Rattle.dsv_quantiser.proofs.quantised.Quantised.in_words.Goals as goal

pub returns-clause-meaning : goal.returns-clause-meaning
returns-clause-meaning c =
    rw c.is_wide.ensures
    (let low : SFits w64 c.in_ok-range.range.lo = search rules in
    let high : SFits w64 c.in_ok-range.range.hi = search rules in
    let delta : SFits w64 c.args.delta = search rules in
    rw (to_z-of_z w64 c.args.delta delta, to_z-of_z w64 c.in_ok-range.range.lo low, to_z-of_z w64 c.in_ok-range.range.hi high)
    (in_words_meant c.args.controller.now c.args.format c.args.realisation c.args.lists.b.now c.args.lists.a.now c.in_ok-b.b.items c.in_ok-a.a.items c.args.delta c.in_ok-range.range.lo c.in_ok-range.range.hi
    c.requires.some c.in_ok-b.ensures.meaning c.in_ok-a.ensures.meaning (rw (c.min.ensures, c.max.ensures) at c.in_ok-range.ensures.meaning)))

pub invariant_of-result : goal.invariant_of-result
invariant_of-result c =
    rw c.is_wide.ensures
    (let low : SFits w64 c.in_ok-range.range.lo = search rules in
    let high : SFits w64 c.in_ok-range.range.hi = search rules in
    let delta : SFits w64 c.args.delta = search rules in
    rw (to_z-of_z w64 c.args.delta delta, to_z-of_z w64 c.in_ok-range.range.lo low, to_z-of_z w64 c.in_ok-range.range.hi high)
    (is_quantised c.args.controller.now c.args.format c.args.realisation c.args.lists.b.now c.args.lists.a.now c.in_ok-b.b.items c.in_ok-a.a.items c.args.delta c.in_ok-range.range.lo c.in_ok-range.range.hi
    c.requires.one_length c.requires.some c.requires.few c.requires.delta
    (in_words_meant c.args.controller.now c.args.format c.args.realisation c.args.lists.b.now c.args.lists.a.now c.in_ok-b.b.items c.in_ok-a.a.items c.args.delta c.in_ok-range.range.lo c.in_ok-range.range.hi
    c.requires.some c.in_ok-b.ensures.meaning c.in_ok-a.ensures.meaning (rw (c.min.ensures, c.max.ensures) at c.in_ok-range.ensures.meaning))))
