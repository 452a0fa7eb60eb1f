use Rattle.std.proofs.Common.{◌≡◌, ℕ, ◌<◌, true}
use Rattle.std.specs.List.{list_all}
use Rattle.std.specs.Ordering.{int_eq}
use Rattle.dsv_algebra.specs.Vectors.{matrix_of}
use Rattle.dsv_forms.specs.Refusals.{places}
use Rattle.dsv_forms.proofs.matrix.is_symmetric.Given as goal

abbrev pub invariant-loop-i : goal.invariant-loop-i
invariant-loop-i l = (k : ℕ) → k < l.i → list_all (λ j. int_eq (matrix_of l.rows k j) (matrix_of l.rows j k)) (places l.d) ≡ true
