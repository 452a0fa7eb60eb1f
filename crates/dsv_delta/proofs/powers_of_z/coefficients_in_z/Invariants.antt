use Rattle.std.proofs.Common.{◌≡◌, ℕ, ◌-◌, ◌≤◌, None, length, unsigned_abs}
use Rattle.dsv_algebra.specs.Vectors.{vector_of}
use Rattle.dsv_delta.specs.ZCoefficients.{scaled, first_wide}
use Rattle.dsv_delta.proofs.Alternating.{IsPart, room}
use Rattle.dsv_delta.proofs.powers_of_z.coefficients_in_z.Given as goal

abbrev pub invariant-loop-word : goal.invariant-loop-word
invariant-loop-word l = record {
  part : IsPart (scaled (record { numerator = l.scale.numerator; denominator = l.scale.denominator }) (length l.coeffs - 1) (vector_of l.coeffs)) l.word-index l.list.items;
  narrow : first_wide (scaled (record { numerator = l.scale.numerator; denominator = l.scale.denominator }) (length l.coeffs - 1) (vector_of l.coeffs)) l.word-index ≡ None;
  small : (i : ℕ) → unsigned_abs (vector_of l.list.items i) ≤ room l.word-index;
}
