use Rattle.std.proofs.Common.{to_z, of_z, w64}
use Rattle.dsv_unroll.proofs.SetSums.{product_after}
use Rattle.dsv_unroll.proofs.sets.with_entry.Goals as goal

pub sum_term-requires-clause-sound : goal.sum_term-requires-clause-sound
sum_term-requires-clause-sound c =
    let r = c.requires in
    (product_after c.args.terms.now c.product_term.new.terms c.entry_bound-size.result (to_z w64 (of_z w64 c.args.coefficient.now)) c.args.sum.id c.args.register c.in_ok-entry.entry r.sound r.sum r.register c.entry_bound-size.ensures.small c.in_ok-entry.ensures).sound

pub sum_term-requires-clause-left : goal.sum_term-requires-clause-left
sum_term-requires-clause-left c =
    let r = c.requires in
    (product_after c.args.terms.now c.product_term.new.terms c.entry_bound-size.result (to_z w64 (of_z w64 c.args.coefficient.now)) c.args.sum.id c.args.register c.in_ok-entry.entry r.sound r.sum r.register c.entry_bound-size.ensures.small c.in_ok-entry.ensures).left

pub sum_term-requires-clause-right : goal.sum_term-requires-clause-right
sum_term-requires-clause-right c =
    let r = c.requires in
    (product_after c.args.terms.now c.product_term.new.terms c.entry_bound-size.result (to_z w64 (of_z w64 c.args.coefficient.now)) c.args.sum.id c.args.register c.in_ok-entry.entry r.sound r.sum r.register c.entry_bound-size.ensures.small c.in_ok-entry.ensures).right
