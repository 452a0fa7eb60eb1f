use Rattle.std.proofs.Common.{Some, sym, ap, ◌∙◌, drop}
use Rattle.std.specs.List.{slice_get}
use Rattle.dsv_template.proofs.BoxLemmas.{boxes_from-first, boxes_from-rest}
use Rattle.dsv_template.proofs.box_proposer.BoxProposerInvariantProposer.propose.Goals as goal

pub returns-then-is_done-clause-told : goal.returns-then-is_done-clause-told
returns-then-is_done-clause-told c = sym (ap (λ cs. slice_get cs 0) (c.is_done.ensures.done c.if-is_done.true))

pub returns-then-is_done-clause-left : goal.returns-then-is_done-clause-left
returns-then-is_done-clause-left c = sym (ap (λ cs. Some (drop 1 cs)) (c.is_done.ensures.done c.if-is_done.true))

pub returns-clause-told : goal.returns-clause-told
returns-clause-told c =
    let first = boxes_from-first c.args.shape.now c.args.self.now.finished c.args.self.now.place
    (c.is_done.ensures.open c.if-is_done.false) (c.is_done.ensures.place c.if-is_done.false) in
    ap Some c.box_at-candidate.ensures ∙ sym first

pub returns-clause-left : goal.returns-clause-left
returns-clause-left c = ap Some (boxes_from-rest c.args.shape.now c.args.self.now.finished c.args.self.now.place (c.is_done.ensures.open c.if-is_done.false))
