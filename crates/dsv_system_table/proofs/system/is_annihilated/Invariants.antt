use Rattle.std.proofs.Common.{◌-◌, ◌<◌, ℕ, length}
use Rattle.dsv_algebra.specs.Vectors.{vector_of, matrix_of}
use Rattle.dsv_system_table.specs.Outputs.{unit, IsObeyed}
use Rattle.dsv_system_table.proofs.system.is_annihilated.Given as goal

abbrev pub invariant-loop-place : goal.invariant-loop-place
invariant-loop-place l = (i : ℕ) → i < l.place
    → IsObeyed (length l.rows) (length l.coefficients - 1) (matrix_of l.rows) (unit i) (vector_of l.coefficients)
