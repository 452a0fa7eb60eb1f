-- Binomial coefficients, and the sums by which a polynomial in z becomes one in z - 1.
use Rattle.std.specs.Prelude.{ℕ, zero, suc, ◌+◌, ◌-◌, ◌*◌, ◌^◌}
use Rattle.std.specs.Prelude.{List, [], ◌∷◌, length, ℤ, pos, ◌*ℤ◌}
use Rattle.std.specs.Int.RustNames.{unsigned_abs}
use Rattle.dsv_algebra.specs.Vectors.{Vector, sum_to}

-- how many sets of k things there are among n
abbrev pub choose : ℕ → ℕ → ℕ
choose n zero = 1
choose zero (suc k) = 0
choose (suc n) (suc k) = choose n k + choose n (suc k)

-- the coefficient number j of the polynomial n_0 z^N + .. + n_N in powers of z - 1, the highest
-- first: the sum of n_i C(N - i, N - j) over i ≤ j
abbrev pub binomial_sum : ℕ → Vector → ℕ → ℤ
binomial_sum order n j = sum_to (suc j) (λ i. n i *ℤ pos (choose (order - i) (order - j)))

-- the sum of |n_i| 2^(N - i)
abbrev pub weight : List ℤ → ℕ
weight [] = 0
weight (n ∷ ns) = unsigned_abs n * 2 ^ length ns + weight ns
