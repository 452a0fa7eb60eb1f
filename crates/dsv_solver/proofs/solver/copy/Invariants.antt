use Rattle.std.proofs.Common.{◌≡◌, take}
use Rattle.dsv_solver.proofs.solver.copy.Given as goal

abbrev pub invariant-loop-i : goal.invariant-loop-i
invariant-loop-i l = l.clauses ≡ record { vars = l.formula.vars; clauses = take l.i l.formula.clauses }
