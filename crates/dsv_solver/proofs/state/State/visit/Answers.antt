use Rattle.std.proofs.Common.{arith, ◌∙◌}
use Rattle.dsv_solver.proofs.Steps.{longer-falsifies}
use Rattle.dsv_solver.proofs.Visits.{longer-twice, visited-kept, visited-moved, all-settled}
use Rattle.dsv_solver.proofs.state.State.visit.Goals as goal

pub loop-j-preserved-in-Kept : goal.loop-j-preserved-in-Kept
loop-j-preserved-in-Kept c =
    let i = c.loop-j.invariant in
    record {
      clauses = c.tend.ensures.clauses ∙ i.clauses;
      head = c.tend.ensures.head ∙ i.head;
      ready = c.in_ok-tend.ensures.ready;
      longer = longer-twice c.args.self.now.trail c.loop-j.self.trail c.tend.new.self.trail i.longer c.in_ok-tend.ensures.longer;
      is_false = longer-falsifies c.loop-j.self.trail c.tend.new.self.trail c.args.literal c.in_ok-tend.ensures.longer i.is_false;
      visited = rw c.tend.ensures.clauses (visited-kept c.loop-j.self.clauses c.loop-j.self.trail c.tend.new.self.trail c.loop-j.self.watches c.tend.new.self.watches c.args.literal c.loop-j.j c.entry-i.result i.ready.justified.limits c.in_ok-tend.ensures.longer c.entry-i.ensures.at i.visited (rw (← c.tend.ensures.clauses) (rw c.in-Kept.is at c.in_ok-tend.ensures.answer)));
    }

pub loop-j-preserved : goal.loop-j-preserved
loop-j-preserved c =
    let i = c.loop-j.invariant in
    record {
      clauses = c.tend.ensures.clauses ∙ i.clauses;
      head = c.tend.ensures.head ∙ i.head;
      ready = c.in_ok-tend.ensures.ready;
      longer = longer-twice c.args.self.now.trail c.loop-j.self.trail c.tend.new.self.trail i.longer c.in_ok-tend.ensures.longer;
      is_false = longer-falsifies c.loop-j.self.trail c.tend.new.self.trail c.args.literal c.in_ok-tend.ensures.longer i.is_false;
      visited = rw c.tend.ensures.clauses (visited-moved c.loop-j.self.clauses c.loop-j.self.head c.loop-j.self.trail c.tend.new.self.trail c.loop-j.self.watches c.tend.new.self.watches c.args.literal c.loop-j.j c.entry-i.result i.ready i.is_false i.visited (rw c.in-Moved.is at c.in_ok-tend.ensures.answer));
    }

pub returns-clause-answer : goal.returns-clause-answer
returns-clause-answer c =
    all-settled c.loop-j.self.clauses c.loop-j.self.trail c.loop-j.self.watches c.args.literal c.loop-j.j (omega (arith, c.loop-j-test.false, c.count.ensures.len)) c.count.ensures.covers c.loop-j.invariant.visited
