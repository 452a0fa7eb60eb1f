use Rattle.std.proofs.Common.{◌≡◌, ◌-◌, ◌++◌, ◌∷◌, [], List, Some, length, ap, arith, ◌∙◌}
use Rattle.dsv_hints.specs.Derivation.{Entry}
use Rattle.dsv_hints.specs.StoreView.{StoreView}
use Rattle.dsv_hints.specs.declared.store.Slot.{Slot}
use Rattle.std.proofs.lemmas.Bool.Decides.{nat_tests}
use Rattle.dsv_hints.proofs.SlotLemmas.{live-added}
use Rattle.dsv_hints.proofs.store.Store.push.Goals as goal

pub returns : goal.returns
returns c =
    let i = c.self.inside in
    let lits = c.args.lits.now in
    let id = c.args.id in
    let literals : c.extend_from_slice.new.self.items ≡ i.literals.items ++ lits = rw c.unwrap.ensures at c.extend_from_slice.ensures.items in
    let slot : Slot = record { id = id; start = c.len-start.result; end = c.len.result } in
    let start : c.len-start.result ≡ length i.literals.items = omega arith in
    let end : c.len.result ≡ length c.extend_from_slice.new.self.items = omega arith in
    let one = live-added i.literals.items lits c.extend_from_slice.new.self.items i.slots.items c.push_reserved.new.self.items slot literals c.push_reserved.ensures.items (grind (arith, nat_tests)) start end c.self.invariant.slots.within in
    let seen : List Entry → StoreView = λ live. record { vars = i.vars; last = Some id; live = live; spare_clauses = i.spare_clauses - 1; spare_literals = i.spare_literals - length lits } in
    ap seen one
    ∙ ap (λ (s : StoreView). record s { last = Some id; live = s.live ++ record { id = id; clause = lits } ∷ []; spare_clauses = s.spare_clauses - 1; spare_literals = s.spare_literals - length lits }) c.self.view_is
