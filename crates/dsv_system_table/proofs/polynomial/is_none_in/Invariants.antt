use Rattle.std.proofs.Common.{◌≡◌, ◌<◌, ℕ, pos}
use Rattle.dsv_algebra.specs.Vectors.{vector_of}
use Rattle.dsv_system_table.proofs.polynomial.is_none_in.Given as goal

abbrev pub invariant-loop-number : goal.invariant-loop-number
invariant-loop-number l = (i : ℕ) → i < l.number-index → vector_of l.list i ≡ pos 0
