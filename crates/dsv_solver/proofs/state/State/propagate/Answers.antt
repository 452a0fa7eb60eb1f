use Rattle.std.proofs.Common.{◌∙◌}
use Rattle.dsv_solver.proofs.Visits.{longer-twice}
use Rattle.dsv_trail.proofs.PlaceLemmas.{falsifies-at}
use Rattle.dsv_solver.proofs.Levels.{ready-next}
use Rattle.dsv_solver.proofs.state.State.propagate.Goals as goal

pub visit-requires-clause-is_false : goal.visit-requires-clause-is_false
visit-requires-clause-is_false c = rw c.negation-literal.ensures (falsifies-at c.loop-self.self.trail.marks c.loop-self.self.head c.mark.result c.mark.ensures.at)

pub loop-self-preserved : goal.loop-self-preserved
loop-self-preserved c =
    let i = c.loop-self.invariant in
    record {
      clauses = c.visit.ensures.clauses ∙ i.clauses;
      ready = rw c.visit.ensures.head (ready-next c.visit.new.self.clauses c.loop-self.self.trail c.visit.new.self.trail c.visit.new.self.watches c.loop-self.self.head c.mark.result c.mark.ensures.at c.in_ok-i.ensures.longer (rw (← c.negation-literal.ensures) (rw c.in_default.is at c.in_ok-i.ensures.answer)) (rw c.visit.ensures.head at c.in_ok-i.ensures.ready));
      longer = longer-twice c.args.self.now.trail c.loop-self.self.trail c.visit.new.self.trail i.longer c.in_ok-i.ensures.longer;
    }
