use Rattle.std.proofs.Common.{◌≡◌, ◌<◌, ◌==◌, if◌then◌else◌, ℕ, pos}
use Rattle.std.proofs.Math.IntN.{◌*ℤ◌}
use Rattle.dsv_algebra.specs.Vectors.{sum_to, matrix_of}
use Rattle.dsv_system_table.proofs.system.is_right_inverse.Given as goal

abbrev pub invariant-loop-j : goal.invariant-loop-j
invariant-loop-j l = (j k : ℕ) → j < l.j → k < l.order
    → sum_to l.width (λ i. matrix_of l.powers j i *ℤ matrix_of l.witness.starts.items i k) ≡ (if j == k then l.witness.factor else pos 0)
