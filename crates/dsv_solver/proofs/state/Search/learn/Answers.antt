use Rattle.std.proofs.Common.{sym}
use Rattle.dsv_solver.specs.Learning.{HasLesson, IsPlan}
use Rattle.dsv_solver.proofs.Ends.{all-false}
use Rattle.dsv_solver.proofs.Searching.{will_learn, has_grown, over_as}
use Rattle.dsv_solver.proofs.state.Search.learn.Goals as goal

pub make_plan-plan-requires-clause-are_false : goal.make_plan-plan-requires-clause-are_false
make_plan-plan-requires-clause-are_false c =
    let h : HasLesson c.args.self.now.state.clauses c.args.self.now.state.trail c.in_ok-learned.learned.clause c.in_ok-learned.learned.hints = c.in_ok-learned.ensures.lesson in
    rw c.as_slice.ensures (all-false c.args.self.now.state.trail c.in_ok-learned.learned.clause (over_as c.args.self.now.state.clauses.vars c.args.self.now.state.trail.vars c.in_ok-learned.learned.clause (sym c.requires.ready.trail_vars) h.over) h.lesson.are_false)

pub add_learned-requires-clause-learned : goal.add_learned-requires-clause-learned
add_learned-requires-clause-learned c =
    let h : HasLesson c.args.self.now.state.clauses c.args.self.now.state.trail c.in_ok-learned.learned.clause c.in_ok-learned.learned.hints = c.in_ok-learned.ensures.lesson in
    let p : IsPlan c.args.self.now.state.trail c.in_ok-learned.learned.clause c.make_plan-plan.result.pair c.make_plan-plan.result.level = rw c.as_slice.ensures at c.make_plan-plan.ensures in
    rw c.as_slice-3.ensures (will_learn c.args.self.now.state.clauses c.args.self.now.state.trail c.in_ok-learned.learned.clause c.in_ok-learned.learned.hints c.make_plan-plan.result.pair c.make_plan-plan.result.level c.requires.ready.justified c.len-count.ensures.whole h p (sym c.requires.ready.trail_vars)).0

pub add_learned-requires-clause-level : goal.add_learned-requires-clause-level
add_learned-requires-clause-level c =
    let h : HasLesson c.args.self.now.state.clauses c.args.self.now.state.trail c.in_ok-learned.learned.clause c.in_ok-learned.learned.hints = c.in_ok-learned.ensures.lesson in
    let p : IsPlan c.args.self.now.state.trail c.in_ok-learned.learned.clause c.make_plan-plan.result.pair c.make_plan-plan.result.level = rw c.as_slice.ensures at c.make_plan-plan.ensures in
    (will_learn c.args.self.now.state.clauses c.args.self.now.state.trail c.in_ok-learned.learned.clause c.in_ok-learned.learned.hints c.make_plan-plan.result.pair c.make_plan-plan.result.level c.requires.ready.justified c.len-count.ensures.whole h p (sym c.requires.ready.trail_vars)).1

pub returns-clause-grown : goal.returns-clause-grown
returns-clause-grown c =
    let h : HasLesson c.args.self.now.state.clauses c.args.self.now.state.trail c.in_ok-learned.learned.clause c.in_ok-learned.learned.hints = c.in_ok-learned.ensures.lesson in
    let p : IsPlan c.args.self.now.state.trail c.in_ok-learned.learned.clause c.make_plan-plan.result.pair c.make_plan-plan.result.level = rw c.as_slice.ensures at c.make_plan-plan.ensures in
    has_grown c.args.self.now.state.clauses c.add_learned.new.self.clauses c.args.self.now.state.trail c.args.self.now.log c.write_step.new.log c.in_ok-learned.learned.clause c.in_ok-learned.learned.hints c.make_plan-plan.result.pair c.make_plan-plan.result.level c.requires.ready.justified h p
    (rw c.as_slice-3.ensures at c.in_ok-add_learned.ensures.clauses) (rw (c.as_slice-2.ensures, c.len-number.ensures) at c.in_ok-write_step.ensures)
