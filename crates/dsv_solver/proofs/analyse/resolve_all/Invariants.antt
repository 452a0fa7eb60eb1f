use Rattle.std.proofs.Common.{◌≡◌}
use Rattle.dsv_solver.specs.Search.{IsRefuting}
use Rattle.dsv_solver.proofs.analyse.resolve_all.Given as goal

abbrev pub invariant-loop-i : goal.invariant-loop-i
invariant-loop-i l =
    record {
      vars : l.set.vars ≡ l.fn.set.vars;
      refuting : IsRefuting l.state.clauses l.state.trail l.i l.set.literals l.hints;
    }

abbrev pub decreases-loop-i : goal.decreases-loop-i
decreases-loop-i l = l.i
