-- Sums whose first terms are 0.
use Rattle.std.proofs.Common.{◌≡◌, ℕ, ◌+◌, ◌<◌, ◌∙◌, arith}
use Rattle.std.proofs.Math.IntN.{ℤ, pos, ◌+ℤ◌}
use Rattle.std.proofs.lemmas.Int.{ints}
use Rattle.dsv_algebra.proofs.Sums.{sum_same, sum_none}
use Rattle.dsv_algebra.specs.Vectors.{sum_to}
use Rattle.dsv_linear.proofs.SmallSums.{summed_further}

pub added : (x y : ℤ) → x ≡ pos 0 → x +ℤ y ≡ y
added x y e = omega (arith, ints)

pub sum_after : (f : ℕ → ℤ) (m n : ℕ) → ((j : ℕ) → j < m → f j ≡ pos 0) → sum_to (m + n) f ≡ sum_to n (λ i. f (m + i))
sum_after f m n z = summed_further f m n ∙ added (sum_to m f) (sum_to n (λ i. f (m + i))) (sum_same m f (λ j. pos 0) z ∙ sum_none m)
