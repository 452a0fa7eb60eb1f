use Rattle.std.proofs.Common.{take}
use Rattle.dsv_solver.specs.Solving.{AreAllOne}
use Rattle.dsv_solver.proofs.first_watches.other_than.Given as goal

abbrev pub invariant-loop-literal : goal.invariant-loop-literal
invariant-loop-literal l = AreAllOne (take l.literal-index l.clause) l.first
