use Rattle.std.proofs.Common.{◌≡◌, ◌≢◌, true, take, drop}
use Rattle.dsv_cnf.specs.Formula.{IsOver, contains}
use Rattle.dsv_cnf.specs.Literal.{Literal}
use Rattle.dsv_trail.specs.Places.{falsifies}
use Rattle.dsv_solver.specs.Analysis.{IsMarked, IsLowest}
use Rattle.dsv_solver.proofs.analyse.mark_others.Given as goal

abbrev pub invariant-loop-literal : goal.invariant-loop-literal
invariant-loop-literal l =
    record {
      vars : l.set.vars ≡ l.fn.set.vars;
      over : IsOver l.trail.vars (drop l.literal-index l.clause);
      are_false : (q : Literal) → contains (drop l.literal-index l.clause) q ≡ true → q ≢ l.skipped → falsifies l.trail.marks q ≡ true;
      marked : IsMarked l.fn.set.literals l.set.literals (take l.literal-index l.clause) l.skipped;
      lowest : IsLowest l.trail l.fn.reach.high l.set.literals l.lowest;
    }
