use Rattle.std.proofs.Common.{◌≡◌, drop}
use Rattle.dsv_cnf.specs.Formula.{IsOver}
use Rattle.dsv_solver.specs.Propagation.{open_of}
use Rattle.dsv_solver.proofs.propagate.find_open.Given as goal

abbrev pub invariant-loop-literal : goal.invariant-loop-literal
invariant-loop-literal l =
    record {
      over : IsOver l.trail.vars (drop l.literal-index l.clause);
      rest : open_of l.trail.marks l.other (drop l.literal-index l.clause) ≡ open_of l.trail.marks l.other l.clause;
    }
