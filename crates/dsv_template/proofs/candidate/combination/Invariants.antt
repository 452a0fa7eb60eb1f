-- What is left of the numbers has what is left of the sum.
use Rattle.std.proofs.Common.{◌≡◌, ◌*◌, drop}
use Rattle.std.specs.Prelude.{◌+ℤ◌, ◌≤ℤ◌, pos, neg_ℤ}
use Rattle.dsv_template.specs.Candidates.{combination, most_entry}
use Rattle.dsv_template.proofs.candidate.combination.Given as goal

abbrev pub invariant-loop-i : goal.invariant-loop-i
invariant-loop-i l = record {
  left : l.total +ℤ combination (drop l.i l.coefficients) (drop l.i l.registers) ≡ combination l.coefficients l.registers;
  least : neg_ℤ (pos (most_entry * l.i)) ≤ℤ l.total;
  greatest : l.total ≤ℤ pos (most_entry * l.i);
}
