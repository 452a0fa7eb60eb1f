use Rattle.std.proofs.Common.{◌+◌, length}
use Rattle.dsv_solver.specs.Search.{IsOpenAt}
use Rattle.dsv_solver.proofs.Searching.{ready_decided, none_answer}
use Rattle.dsv_solver.proofs.state.State.advance.Goals as goal

pub propagate-requires-in-loop-found : goal.propagate-requires-in-loop-found
propagate-requires-in-loop-found c =
    let i = c.loop-found.invariant in
    let o : IsOpenAt c.loop-found.self.trail c.in-Some.literal = rw c.in-Some.is at c.choose.ensures in
    record {
      ready = rw c.decide.ensures.state
          (ready_decided c.loop-found.self.clauses c.loop-found.self.trail c.loop-found.self.watches c.loop-found.self.head (length c.loop-found.self.trail.limits + 1) c.in-Some.literal i.ready (none_answer c.loop-found.found _ _ c.is_none.result c.is_none.ensures c.loop-found-test.true i.answer) o.free);
    }
