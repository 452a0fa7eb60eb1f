use Rattle.std.proofs.Common.{◌≡◌, ◌+◌, ◌-◌, length}
use Rattle.std.specs.Prelude.{MatchOption}
use Rattle.dsv_solver.specs.Propagation.{IsReady, IsConflict}
use Rattle.dsv_solver.proofs.state.State.advance.Given as goal

abbrev pub invariant-loop-found : goal.invariant-loop-found
invariant-loop-found l =
    record {
      clauses : l.self.clauses ≡ l.fn.self.clauses;
      ready : IsReady l.self.clauses l.self.trail l.self.watches l.self.head;
      answer : MatchOption l.found (l.self.head ≡ length l.self.trail.marks) (IsConflict l.self.clauses l.self.trail);
    }

abbrev pub decreases-loop-found : goal.decreases-loop-found
decreases-loop-found l = l.self.trail.vars + 1 - length l.self.trail.marks
