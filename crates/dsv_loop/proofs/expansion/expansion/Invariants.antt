use Rattle.std.proofs.Common.{◌-◌, length}
use Rattle.dsv_algebra.specs.Vectors.{vector_of}
use Rattle.dsv_delta.specs.ZCoefficients.{scaled}
use Rattle.dsv_delta.proofs.Alternating.{IsPart}
use Rattle.dsv_loop.proofs.expansion.expansion.Given as goal

abbrev pub invariant-loop-word : goal.invariant-loop-word
invariant-loop-word l = IsPart (scaled (record { numerator = l.scale.numerator; denominator = l.scale.denominator }) (length l.words - 1) (vector_of l.words)) l.word-index l.list
