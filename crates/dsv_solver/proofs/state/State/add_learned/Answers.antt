use Rattle.std.proofs.Common.{◌≡◌, ◌++◌, ◌∷◌, [], length, Some, ◌∙◌, ap, take, refl}
use Rattle.dsv_trail.specs.TrailView.{TrailView}
use Rattle.dsv_trail.specs.declared.marks.Mark.{Mark}
use Rattle.dsv_trail.proofs.Elements.{push-new}
use Rattle.dsv_trail.proofs.PlaceLemmas.{back-at, open-of, reason-of}
use Rattle.dsv_solver.specs.Back.{back}
use Rattle.dsv_solver.proofs.Searching.{ready_added}
use Rattle.dsv_solver.proofs.state.State.add_learned.Goals as goal

pub imply-requires-clause-over : goal.imply-requires-clause-over
imply-requires-clause-over c =
    let b = c.back_to.ensures.state ∙ back-at c.args.self.now.trail c.args.plan.level c.limit-limit.result c.limit-limit.ensures in rw b c.requires.learned.over.one

pub imply-requires-clause-free : goal.imply-requires-clause-free
imply-requires-clause-free c =
    let k = c.limit-limit.result in
    let b = c.back_to.ensures.state ∙ back-at c.args.self.now.trail c.args.plan.level k c.limit-limit.ensures in
    let l = c.requires.learned.learned k c.limit-limit.ensures in
    rw b (open-of (take k c.args.self.now.trail.marks) c.args.plan.pair.one l.open_first l.open_negation)

pub imply-requires-clause-reason : goal.imply-requires-clause-reason
imply-requires-clause-reason c =
    let k = c.limit-limit.result in
    let b = c.back_to.ensures.state ∙ back-at c.args.self.now.trail c.args.plan.level k c.limit-limit.ensures in
    let l = c.requires.learned.learned k c.limit-limit.ensures in
    rw (c.in_ok-push_clause.ensures.ok, c.len-number.ensures, b)
    (reason-of c.args.self.now.trail.vars (c.args.self.now.clauses.clauses ++ c.args.clause.now ∷ []) (length c.args.self.now.clauses.clauses) (take k c.args.self.now.trail.marks) c.args.clause.now c.args.plan.pair.one
    (rw b at c.len-count.ensures.whole.marks) (push-new c.args.self.now.clauses.clauses c.args.clause.now) l.first l.others)

pub returns-clause-ready : goal.returns-clause-ready
returns-clause-ready c =
    let k = c.limit-limit.result in
    let e = c.limit-limit.ensures in
    let b = c.back_to.ensures.state ∙ back-at c.args.self.now.trail c.args.plan.level k e in
    let m : Mark = record { literal = c.args.plan.pair.one; level = length (take c.args.plan.level c.args.self.now.trail.limits); reason = Some c.len-number.result } in
    let t : c.imply.new.self ≡ record (back c.args.self.now.trail c.args.plan.level k) { marks = take k c.args.self.now.trail.marks ++ m ∷ [] } = rw b at c.imply.ensures.state in
    let n : c.len-self.result ≡ length (take k c.args.self.now.trail.marks) = c.len-self.ensures.value ∙ ap (λ (s : TrailView). length s.marks) b in
    rw c.in_ok-push_clause.ensures.ok
    (ready_added c.args.self.now.clauses c.args.self.now.trail c.imply.new.self c.args.self.now.watches c.add.new.self c.args.self.now.head c.len-self.result c.args.plan.level k c.args.clause.now c.args.plan.pair m c.requires.ready e (c.requires.learned.learned k e) refl (ap Some c.len-number.ensures) c.add.ensures.vars c.in_ok-add.ensures.pairs n t)

pub returns-clause-vars : goal.returns-clause-vars
returns-clause-vars c =
    let b = c.back_to.ensures.state ∙ back-at c.args.self.now.trail c.args.plan.level c.limit-limit.result c.limit-limit.ensures in
    ap (λ (s : TrailView). s.vars) c.imply.ensures.state ∙ ap (λ (s : TrailView). s.vars) b
