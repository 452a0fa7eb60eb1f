use Rattle.std.proofs.Common.{◌≡◌, ◌-◌, drop, length}
use Rattle.dsv_cnf.specs.Formula.{assignment_of}
use Rattle.dsv_blast.specs.Words.{bits_value, number_of}
use Rattle.dsv_blast.proofs.model_values.number.Given as goal

abbrev pub invariant-loop-i : goal.invariant-loop-i
invariant-loop-i l = l.number ≡ number_of (bits_value (assignment_of l.model) (drop (length l.bits - l.i) l.bits))
