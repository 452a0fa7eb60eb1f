use Rattle.std.proofs.Common.{sym, ◌∙◌}
use Rattle.dsv_hints.proofs.SlotLemmas.{live-absent, live-at}
use Rattle.dsv_hints.proofs.store.Store.clause.Goals as goal

pub returns-in_err-find-clause-value : goal.returns-in_err-find-clause-value
returns-in_err-find-clause-value c =
    let none = rw c.as_slice.ensures.value at c.in_err-find.ensures.none in
    rw (c.from_residual.ensures, ← c.self.view_is) (sym (live-absent c.self.inside.literals.items c.self.inside.slots.items c.args.id none))

pub returns-then-not-is_live-clause-value : goal.returns-then-not-is_live-clause-value
returns-then-not-is_live-clause-value c =
    let at = rw c.as_slice.ensures.value at c.in_ok-find.ensures.some in
    let found = live-at c.self.inside.literals.items c.self.inside.slots.items c.args.id c.in_ok-find.field-0 c.index.result.now c.self.invariant.slots.rising at c.index.ensures in
    rw (← c.self.view_is) (sym (rw (sym c.is_live.ensures ∙ c.if-not-is_live.true) at found))

pub returns-clause-value : goal.returns-clause-value
returns-clause-value c =
    let at = rw c.as_slice.ensures.value at c.in_ok-find.ensures.some in
    let found = live-at c.self.inside.literals.items c.self.inside.slots.items c.args.id c.in_ok-find.field-0 c.index.result.now c.self.invariant.slots.rising at c.index.ensures in
    rw (← c.self.view_is, c.piece.ensures, c.as_slice-2.ensures.value) (sym (rw (sym c.is_live.ensures ∙ c.if-not-is_live.false) at found))
