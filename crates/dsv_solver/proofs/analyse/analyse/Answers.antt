use Rattle.std.proofs.Common.{◌≡◌, ◌∙◌, ◌+◌, ap, ◌∷◌, [], ◌++◌}
use Rattle.dsv_trail.specs.Places.{falsifies}
use Rattle.dsv_solver.specs.Analysis.{IsMarked, low_literals}
use Rattle.dsv_solver.specs.Walking.{IsEnding}
use Rattle.dsv_cnf.proofs.ClauseLemmas.{not_true}
use Rattle.dsv_trail.proofs.PlaceLemmas.{falsifies-at}
use Rattle.dsv_solver.proofs.Walkings.{walking-start, walking-turned}
use Rattle.dsv_solver.proofs.Ends.{lesson, all-false, reverse-contains}
use Rattle.dsv_solver.proofs.analyse.analyse.Goals as goal

pub resolve_high-requires-clause-walking : goal.resolve_high-requires-clause-walking
resolve_high-requires-clause-walking c =
    let pushed : c.push.new.self ≡ (c.args.conflict + 1) ∷ [] = c.in_ok-push.ensures.ok ∙ (ap (λ x. (x + 1) ∷ c.new-hints.result) c.from.ensures ∙ ap (λ y. (c.args.conflict + 1) ∷ y) c.new-hints.ensures) in
    let k : IsMarked [] c.mark_others.new.set.literals c.clause-clause.result.now c.mark-decision.result.literal = rw c.requires.empty at c.in_ok-least.ensures.marked in
    rw pushed
    (walking-start c.args.state.now.clauses c.args.state.now.trail c.args.bounds.zero_end c.args.bounds.high c.in_ok-least.least c.args.conflict c.mark_others.new.set.literals c.clause-clause.result.now c.mark-decision.result.literal c.requires.justified c.requires.fine c.clause-clause.ensures.at (c.requires.conflict c.clause-clause.result.now c.clause-clause.ensures.at)
    (not_true (falsifies c.args.state.now.trail.marks c.mark-decision.result.literal) (λ h. c.requires.justified.consistent c.mark-decision.result.literal h (falsifies-at c.args.state.now.trail.marks c.args.bounds.high c.mark-decision.result c.mark-decision.ensures.at)))
    k c.in_ok-least.ensures.lowest c.requires.order)

pub resolve_zero-requires-clause-ending : goal.resolve_zero-requires-clause-ending
resolve_zero-requires-clause-ending c =
    rw c.negation-first.ensures
    (walking-turned c.args.state.now.clauses c.args.state.now.trail c.args.bounds.zero_end c.args.bounds.high c.in_ok-lowest.lowest c.resolve_high.new.set.literals c.resolve_high.new.hints c.mark.result c.requires.justified c.mark.ensures.at c.requires.order c.in_ok-lowest.ensures.walking)

pub push_lows-requires : goal.push_lows-requires
push_lows-requires c =
    let e : IsEnding c.args.state.now.clauses c.args.state.now.trail c.args.bounds.zero_end c.args.bounds.high 0 c.negation-first.result c.resolve_zero.new.set.literals c.resolve_zero.new.hints = c.in_ok-resolve_zero.ensures.ending in
    let vars : c.resolve_zero.new.set.vars ≡ c.args.state.now.trail.vars = c.resolve_zero.ensures.vars ∙ (c.resolve_high.ensures.vars ∙ (c.mark_others.ensures.vars ∙ c.requires.vars)) in
    all-false c.args.state.now.trail c.as_slice.result.now (rw vars at c.as_slice.ensures.over) (λ q n. e.way.met.are_false q (rw c.as_slice.ensures.items (reverse-contains c.as_slice.result.now q n)))

pub returns-clause-lesson : goal.returns-clause-lesson
returns-clause-lesson c =
    let e : IsEnding c.args.state.now.clauses c.args.state.now.trail c.args.bounds.zero_end c.args.bounds.high 0 c.negation-first.result c.resolve_zero.new.set.literals c.resolve_zero.new.hints = c.in_ok-resolve_zero.ensures.ending in
    let l : c.push_lows.new.clause ≡ c.negation-first.result ∷ low_literals c.args.state.now.trail c.args.bounds.zero_end c.args.bounds.high c.as_slice.result.now = c.in_ok-push_lows.ensures ∙ ap (λ x. x ++ low_literals c.args.state.now.trail c.args.bounds.zero_end c.args.bounds.high c.as_slice.result.now) (c.in_ok-push-2.ensures.ok ∙ ap (λ y. y ++ c.negation-first.result ∷ []) c.new-literals.ensures) in
    rw l (lesson c.args.state.now.clauses c.args.state.now.trail c.args.bounds.zero_end c.args.bounds.high c.negation-first.result c.resolve_zero.new.set.literals c.as_slice.result.now c.resolve_zero.new.hints c.requires.justified c.as_slice.ensures.items e)
