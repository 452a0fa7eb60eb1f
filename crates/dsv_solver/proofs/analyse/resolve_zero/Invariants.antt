use Rattle.std.proofs.Common.{◌≡◌}
use Rattle.dsv_solver.specs.Walking.{IsEnding}
use Rattle.dsv_solver.proofs.analyse.resolve_zero.Given as goal

abbrev pub invariant-loop-i : goal.invariant-loop-i
invariant-loop-i l =
    record {
      vars : l.set.vars ≡ l.fn.set.vars;
      ending : IsEnding l.state.clauses l.state.trail l.fn.bounds.zero_end l.fn.bounds.high l.i l.fn.first l.set.literals l.hints;
    }

abbrev pub decreases-loop-i : goal.decreases-loop-i
decreases-loop-i l = l.i
