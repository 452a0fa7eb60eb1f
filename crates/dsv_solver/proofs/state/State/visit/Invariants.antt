use Rattle.std.proofs.Common.{◌≡◌, ◌-◌, length, true}
use Rattle.dsv_trail.specs.Places.{falsifies}
use Rattle.dsv_solver.specs.Watched.{list_of}
use Rattle.dsv_solver.specs.Propagation.{IsReady, IsLonger, IsVisited}
use Rattle.dsv_solver.proofs.state.State.visit.Given as goal

abbrev pub invariant-loop-j : goal.invariant-loop-j
invariant-loop-j l =
    record {
      clauses : l.self.clauses ≡ l.fn.self.clauses;
      head : l.self.head ≡ l.fn.self.head;
      ready : IsReady l.self.clauses l.self.trail l.self.watches l.self.head;
      longer : IsLonger l.fn.self.trail l.self.trail;
      is_false : falsifies l.self.trail.marks l.literal ≡ true;
      visited : IsVisited l.self.clauses l.self.trail l.self.watches l.literal (list_of l.self.watches.lists l.literal) l.j;
    }

abbrev pub decreases-loop-j : goal.decreases-loop-j
decreases-loop-j l = length (list_of l.self.watches.lists l.literal) - l.j
