use Rattle.std.proofs.Common.{◌≡◌, ◌<◌, ◌∷◌, length, take, refl, rules, arith}
use Rattle.std.proofs.lemmas.List.{length-take}
use Rattle.dsv_cascade.proofs.StableSections.{first_judged, later_judged, length-stable, later_stable}
use Rattle.dsv_cascade.proofs.stability.cascade_stability.Goals as goal

pub returns-in-Err : goal.returns-in-Err
returns-in-Err c = first_judged c.args.cascade.now.first c.args.cascade.now.later _ c.in-Err.fault refl (search rules)

pub push-requires-in-Ok-section_offer : goal.push-requires-in-Ok-section_offer
push-requires-in-Ok-section_offer c =
    let later = c.args.cascade.now.later in
    let i = c.loop-section.section-index in
    let inside : i < length later = search rules in
    let many = length-stable (c.args.cascade.now.first ∷ take i later) c.loop-section.items.items c.loop-section.invariant in
    (omega arith, omega (arith, inside, many, length-take i later, c.first_section.ensures.cascade.few))

pub returns-in-Err-section_offer : goal.returns-in-Err-section_offer
returns-in-Err-section_offer c =
    later_judged c.args.cascade.now.first c.section-item.result c.args.cascade.now.later c.loop-section.items.items c.loop-section.section-index _ c.in-Err-section_offer.fault
    c.loop-section.invariant (search rules) (search rules) (search rules) (search rules)

pub loop-section-preserved : goal.loop-section-preserved
loop-section-preserved c =
    let cascade = c.args.cascade.now in
    let i = c.loop-section.section-index in
    rw c.push-in-Ok-section_offer.ensures.items
    (later_stable cascade.first c.section-item.result cascade.later c.loop-section.items.items c.in-Ok-section_offer.offer i c.loop-section.invariant (search rules) (search rules) (search rules))
