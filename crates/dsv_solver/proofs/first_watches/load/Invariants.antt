use Rattle.dsv_solver.specs.Solving.{IsBegun}
use Rattle.dsv_solver.proofs.first_watches.load.Given as goal

abbrev pub invariant-loop-i : goal.invariant-loop-i
invariant-loop-i l = IsBegun l.clauses l.trail l.watches l.i
