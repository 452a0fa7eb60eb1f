use Rattle.std.proofs.Common.{◌≡◌, ◌-◌, ◌<◌, ℕ, length}
use Rattle.dsv_algebra.specs.Vectors.{vector_of}
use Rattle.dsv_table.specs.Rates.{scaled}
use Rattle.dsv_table.specs.RootSize.{parts}
use Rattle.dsv_table.proofs.roots.scaled_list.Given as goal

abbrev pub invariant-loop-k : goal.invariant-loop-k
invariant-loop-k l = record {
  places : length l.list.items ≡ l.k;
  same : (i : ℕ) → i < l.k
      → vector_of l.list.items i ≡ scaled (length l.coefficients - 1) l.p parts (vector_of l.coefficients) i;
}
