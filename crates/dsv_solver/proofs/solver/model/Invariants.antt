use Rattle.dsv_solver.specs.Ending.{AreValuesTo}
use Rattle.dsv_solver.proofs.solver.model.Given as goal

abbrev pub invariant-loop-var : goal.invariant-loop-var
invariant-loop-var l = AreValuesTo l.trail l.var l.values
