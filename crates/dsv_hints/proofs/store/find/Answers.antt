use Rattle.std.proofs.Common.{rules}
use Rattle.std.proofs.lemmas.List.Sorted.{answers_always}
use Rattle.dsv_hints.proofs.SlotLemmas.{searched}
use Rattle.dsv_hints.proofs.store.find.Goals as goal

pub returns-clause-some : goal.returns-clause-some
returns-clause-some c =
    let facts = c.binary_search_by_key.ensures in
    let by_key = facts.position (λ slot. slot.id) (answers_always _ _ _ (λ f a r g called. search rules)) in
    rw c.ok.ensures.value (searched c.args.slots.now c.args.id c.requires c.binary_search_by_key.result facts.bound by_key).found

pub returns-clause-none : goal.returns-clause-none
returns-clause-none c =
    let facts = c.binary_search_by_key.ensures in
    let by_key = facts.position (λ slot. slot.id) (answers_always _ _ _ (λ f a r g called. search rules)) in
    rw c.ok.ensures.value (searched c.args.slots.now c.args.id c.requires c.binary_search_by_key.result facts.bound by_key).absent
