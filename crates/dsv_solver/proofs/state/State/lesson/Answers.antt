use Rattle.std.proofs.Common.{◌≡◌, ◌-◌, length, slice_get, Some, ◌∙◌, ap, sym}
use Rattle.std.proofs.lemmas.Option.{slice_get_within}
use Rattle.dsv_solver.proofs.Levels.{fines-below}
use Rattle.dsv_solver.proofs.Searching.{zeroes, implied_behind, lesson_over, conflict_all}
use Rattle.dsv_solver.proofs.state.State.lesson.Goals as goal

pub analyse-requires-clause-fine : goal.analyse-requires-clause-fine
analyse-requires-clause-fine c = fines-below c.args.self.now.clauses c.args.self.now.trail c.args.self.now.watches c.args.self.now.head _ c.limit-high.result c.requires.ready c.limit-high.ensures

pub analyse-requires-clause-zeroes : goal.analyse-requires-clause-zeroes
analyse-requires-clause-zeroes c = zeroes c.args.self.now.trail c.limit-zero_end.result c.len-count.ensures.whole c.limit-zero_end.ensures

pub analyse-requires-clause-implied : goal.analyse-requires-clause-implied
analyse-requires-clause-implied c =
    let top : slice_get c.args.self.now.trail.limits (length c.args.self.now.trail.limits - 1) ≡ Some c.limit-high.result = ap (λ i. slice_get c.args.self.now.trail.limits (i - 1)) (sym c.level.ensures) ∙ c.limit-high.ensures in
    implied_behind c.args.self.now.trail c.limit-high.result c.len-count.ensures.whole top

pub analyse-requires-clause-known : goal.analyse-requires-clause-known
analyse-requires-clause-known c = slice_get_within c.args.self.now.clauses.clauses c.args.conflict c.requires.conflict.clause c.requires.conflict.at

pub analyse-requires-clause-conflict : goal.analyse-requires-clause-conflict
analyse-requires-clause-conflict c = conflict_all c.args.self.now.clauses c.args.self.now.trail c.args.conflict c.requires.conflict

pub returns-clause-lesson : goal.returns-clause-lesson
returns-clause-lesson c =
    let top : slice_get c.args.self.now.trail.limits (length c.args.self.now.trail.limits - 1) ≡ Some c.limit-high.result = ap (λ i. slice_get c.args.self.now.trail.limits (i - 1)) (sym c.level.ensures) ∙ c.limit-high.ensures in
    record {
      high = c.limit-high.result;
      top = top;
      fine = fines-below c.args.self.now.clauses c.args.self.now.trail c.args.self.now.watches c.args.self.now.head _ c.limit-high.result c.requires.ready c.limit-high.ensures;
      lesson = c.in_ok-learned.ensures.lesson;
      over = lesson_over c.args.self.now.clauses c.args.self.now.trail c.args.self.now.watches c.args.self.now.head c.limit-high.result c.in_ok-learned.learned.clause c.in_ok-learned.learned.hints c.requires.ready c.len-count.ensures.whole c.in_ok-learned.ensures.lesson;
    }
