use Rattle.std.proofs.Common.{◌∙◌, ◌+◌, ap, sym, ◌∷◌, inl, inr}
use Rattle.dsv_cnf.specs.Formula.{contains}
use Rattle.dsv_trail.proofs.PlaceLemmas.{falsifies-take}
use Rattle.dsv_solver.proofs.Walks.{implied-of}
use Rattle.dsv_solver.proofs.Walkings.{reason-within}
use Rattle.dsv_solver.proofs.analyse.resolve_at.Goals as goal

pub clause-requires : goal.clause-requires
clause-requires c = reason-within c.args.state.now.clauses c.args.state.now.trail c.args.place c.in-Some.reason c.mark-mark.result c.requires.justified c.mark-mark.ensures.at c.in-Some.is

pub mark_others-requires-clause-are_false : goal.mark_others-requires-clause-are_false
mark_others-requires-clause-are_false c =
    let s = implied-of c.args.state.now.clauses c.args.state.now.trail c.args.place c.in-Some.reason c.mark-mark.result c.clause.result.now c.requires.justified c.mark-mark.ensures.at c.in-Some.is c.clause.ensures.at in
    λ q n d. elim (s.others q n) [ inl e ↦ absurd (d e) | inr g ↦ falsifies-take c.args.state.now.trail.marks c.args.place q g ]

pub unreachable-requires : goal.unreachable-requires
unreachable-requires c =
    let e = rw c.in-None.is at (c.requires.implied c.mark-mark.result c.mark-mark.ensures.at) in
    cc

pub returns-clause-step : goal.returns-clause-step
returns-clause-step c =
    let s = implied-of c.args.state.now.clauses c.args.state.now.trail c.args.place c.in-Some.reason c.mark-mark.result c.clause.result.now c.requires.justified c.mark-mark.ensures.at c.in-Some.is c.clause.ensures.at in
    inr (record {
      mark = c.mark-mark.result;
      reason = c.in-Some.reason;
      clause = c.clause.result.now;
      implied = s;
      met = ap (contains c.args.set.now.literals) (sym c.negation.ensures) ∙ (sym c.contains.ensures ∙ c.if-not-contains.false);
      marked = c.in_ok-lowest-in-Some.ensures.marked;
      hints = c.in_ok-push-in-Some.ensures.ok ∙ ap (λ x. (x + 1) ∷ c.args.hints.now) c.from.ensures;
    })
