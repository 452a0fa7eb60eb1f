use Rattle.std.proofs.Common.{◌≡◌, ◌<◌, ◌==◌, if◌then◌else◌, ℕ, pos}
use Rattle.dsv_algebra.specs.Vectors.{vector_of}
use Rattle.dsv_system_table.proofs.system.is_only_at.Given as goal

abbrev pub invariant-loop-k : goal.invariant-loop-k
invariant-loop-k l = (k : ℕ) → k < l.k → vector_of l.list k ≡ (if l.place == k then l.number else pos 0)
