use Rattle.std.proofs.Common.{◌≡◌, ◌++◌, drop}
use Rattle.dsv_cnf.specs.Formula.{assignment_of}
use Rattle.dsv_blast.specs.Blast.{input_values}
use Rattle.dsv_blast.proofs.model_values.values_of.Given as goal

abbrev pub invariant-loop-i : goal.invariant-loop-i
invariant-loop-i l = l.values ++ input_values (drop l.i l.blasted.inputs) (assignment_of l.model) ≡ input_values l.blasted.inputs (assignment_of l.model)
