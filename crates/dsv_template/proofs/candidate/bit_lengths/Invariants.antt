-- What is left of the numbers has what is left of the bits.
use Rattle.std.proofs.Common.{◌≡◌, ◌+◌, ◌*◌, ◌≤◌, drop}
use Rattle.dsv_template.specs.Candidates.{bit_lengths}
use Rattle.dsv_template.proofs.candidate.bit_lengths.Given as goal

abbrev pub invariant-loop-c : goal.invariant-loop-c
invariant-loop-c l = record {
  left : l.total + bit_lengths (drop l.c-index l.coefficients) ≡ bit_lengths l.coefficients;
  few : l.total ≤ 64 * l.c-index;
}
