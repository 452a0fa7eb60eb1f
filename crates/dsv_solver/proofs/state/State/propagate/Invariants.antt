use Rattle.std.proofs.Common.{◌≡◌, ◌-◌}
use Rattle.dsv_solver.specs.Propagation.{IsReady, IsLonger}
use Rattle.dsv_solver.proofs.state.State.propagate.Given as goal

abbrev pub invariant-loop-self : goal.invariant-loop-self
invariant-loop-self l =
    record {
      clauses : l.self.clauses ≡ l.fn.self.clauses;
      ready : IsReady l.self.clauses l.self.trail l.self.watches l.self.head;
      longer : IsLonger l.fn.self.trail l.self.trail;
    }

abbrev pub decreases-loop-self : goal.decreases-loop-self
decreases-loop-self l = l.self.clauses.vars - l.self.head
