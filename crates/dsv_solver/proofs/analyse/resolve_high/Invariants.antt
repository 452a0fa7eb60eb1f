use Rattle.std.proofs.Common.{◌≡◌}
use Rattle.dsv_solver.specs.Walking.{IsWalking}
use Rattle.dsv_solver.proofs.analyse.resolve_high.Given as goal

abbrev pub invariant-loop-lowest : goal.invariant-loop-lowest
invariant-loop-lowest l =
    record {
      vars : l.set.vars ≡ l.fn.set.vars;
      walking : IsWalking l.state.clauses l.state.trail l.fn.bounds.zero_end l.fn.bounds.high l.i l.lowest l.set.literals l.hints;
    }

abbrev pub decreases-loop-lowest : goal.decreases-loop-lowest
decreases-loop-lowest l = l.i
