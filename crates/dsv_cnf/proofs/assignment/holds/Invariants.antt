use Rattle.std.proofs.Common.{◌≡◌, drop}
use Rattle.dsv_cnf.specs.Formula.{clause_value, assignment_of}
use Rattle.dsv_cnf.proofs.assignment.holds.Given as goal

abbrev pub invariant-loop-literal : goal.invariant-loop-literal
invariant-loop-literal l =
    clause_value (assignment_of l.values) (drop l.literal-index l.clause) ≡ clause_value (assignment_of l.values) l.clause
