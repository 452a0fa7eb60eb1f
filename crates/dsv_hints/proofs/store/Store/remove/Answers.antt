use Rattle.std.proofs.Common.{List, ap, ◌∙◌, refl, sym}
use Rattle.dsv_hints.specs.Derivation.{Entry, without}
use Rattle.dsv_hints.specs.StoreView.{StoreView}
use Rattle.dsv_hints.proofs.SlotLemmas.{live-deleted, without-absent}
use Rattle.dsv_hints.proofs.store.Store.remove.Goals as goal

pub returns-in-Some : goal.returns-in-Some
returns-in-Some c =
    let i = c.self.inside in
    let at = rw c.as_slice.ensures.value at c.in-Some.ensures.some in
    let x = c.index_mut-slot.result.now in
    let same = rw (← c.index_mut-slot.ensures.value) at (at.same x) in
    let seen : List Entry → StoreView = λ live. record { vars = i.vars; last = i.last; live = live; spare_clauses = i.spare_clauses; spare_literals = i.spare_literals } in
    ap seen (live-deleted i.literals.items i.slots.items c.args.id c.in-Some.k x (record x { start = 1; end = 0 }) c.self.invariant.slots.rising at.in_range c.index_mut-slot.ensures.value same refl)
    ∙ ap (λ (s : StoreView). record s { live = without s.live c.args.id }) c.self.view_is

pub returns-in_default : goal.returns-in_default
returns-in_default c =
    let i = c.self.inside in
    let none = rw c.as_slice.ensures.value at c.in_default.ensures.none in
    let seen : List Entry → StoreView = λ live. record { vars = i.vars; last = i.last; live = live; spare_clauses = i.spare_clauses; spare_literals = i.spare_literals } in
    sym c.self.view_is
    ∙ ap seen (sym (without-absent i.literals.items i.slots.items c.args.id none))
    ∙ ap (λ (s : StoreView). record s { live = without s.live c.args.id }) c.self.view_is
