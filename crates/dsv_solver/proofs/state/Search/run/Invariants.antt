use Rattle.std.proofs.Common.{◌≡◌, length}
use Rattle.dsv_solver.specs.Turns.{Searches}
use Rattle.dsv_solver.proofs.state.Search.run.Given as goal

abbrev pub invariant-loop : goal.invariant-loop
invariant-loop l =
    record {
      searching : Searches l.fn.self.state.clauses l.self;
      count : length l.self.log ≡ l.counter;
      seen : l.self.seen.vars ≡ l.self.state.trail.vars;
    }
