use Rattle.std.proofs.Common.{◌≡◌, ◌∙◌, ◌+◌, ap, ◌∷◌, []}
use Rattle.dsv_solver.specs.Analysis.{IsMarked}
use Rattle.dsv_solver.proofs.Searching.{refuting_empty, refuting_marked}
use Rattle.dsv_solver.proofs.analyse.refute.Goals as goal

pub returns-in_default : goal.returns-in_default
returns-in_default c =
    let pushed : c.push.new.self ≡ (c.args.conflict + 1) ∷ [] = c.in_ok-push.ensures.ok ∙ (ap (λ x. (x + 1) ∷ c.new-hints.result) c.from.ensures ∙ ap (λ y. (c.args.conflict + 1) ∷ y) c.new-hints.ensures) in
    rw pushed (refuting_empty c.args.state.now.clauses c.args.conflict c.clause-clause.result.now c.clause-clause.ensures.at (rw c.in_default.is at c.first_literal.ensures))

pub resolve_all-requires-clause-refuting : goal.resolve_all-requires-clause-refuting
resolve_all-requires-clause-refuting c =
    let pushed : c.push.new.self ≡ (c.args.conflict + 1) ∷ [] = c.in_ok-push.ensures.ok ∙ (ap (λ x. (x + 1) ∷ c.new-hints.result) c.from.ensures ∙ ap (λ y. (c.args.conflict + 1) ∷ y) c.new-hints.ensures) in
    let k : IsMarked [] c.mark_others.new.set.literals c.clause-clause.result.now c.negation.result = rw c.requires.empty at c.in_ok-_end.ensures.marked in
    rw pushed
    (refuting_marked c.args.state.now.clauses c.args.state.now.trail c.mark_others.new.set.literals c.clause-clause.result.now c.in-Some.first c.negation.result c.args.conflict c.requires.justified c.clause-clause.ensures.at (c.requires.conflict c.clause-clause.result.now c.clause-clause.ensures.at) (rw c.in-Some.is at c.first_literal.ensures) c.negation.ensures k)
