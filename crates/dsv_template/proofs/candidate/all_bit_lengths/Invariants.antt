-- What is left of the inequalities has what is left of the bits.
use Rattle.std.proofs.Common.{◌≡◌, ◌+◌, ◌*◌, ◌≤◌, drop}
use Rattle.dsv_template.specs.Candidates.{all_bit_lengths}
use Rattle.dsv_template.proofs.candidate.all_bit_lengths.Given as goal

abbrev pub invariant-loop-inequality : goal.invariant-loop-inequality
invariant-loop-inequality l = record {
  left : l.total + all_bit_lengths (drop l.inequality-index l.inequalities) ≡ all_bit_lengths l.inequalities;
  few : l.total ≤ 1024 * l.inequality-index;
}
