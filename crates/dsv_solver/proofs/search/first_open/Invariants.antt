use Rattle.dsv_solver.specs.Search.{IsFullTo}
use Rattle.dsv_solver.proofs.search.first_open.Given as goal

abbrev pub invariant-loop-var : goal.invariant-loop-var
invariant-loop-var l = IsFullTo l.trail l.var
