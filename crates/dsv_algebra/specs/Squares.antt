-- Sums of weighted squares of rows, and dominant matrices: the two shapes whose signs can be read
-- off.
use Rattle.std.specs.Prelude.{◌≡◌, ◌≢◌, ℕ, ◌<◌, ◌==◌, if◌then◌else◌}
use Rattle.std.specs.Prelude.{ℤ, pos, ◌*ℤ◌, ◌<ℤ◌, ◌≤ℤ◌}
use Rattle.std.specs.Int.RustNames.{unsigned_abs}
use Rattle.dsv_algebra.specs.Vectors.{Vector, Matrix, sum_to}

-- a weighted square of a row: the matrix of w times (r . v)^2
abbrev pub square : ℤ → Vector → Matrix
square w r i j = w *ℤ r i *ℤ r j

-- the sum of the first n weighted squares
abbrev pub squares : ℕ → Vector → (ℕ → Vector) → Matrix
squares n w rows i j = sum_to n (λ k. square (w k) (rows k) i j)

-- Weights that are positive, and rows that are 0 before their own place and not 0 there.
pub record IsTriangular (d : ℕ) (w : Vector) (rows : ℕ → Vector) : Type 0 where
  pub weight : (k : ℕ) → k < d → pos 0 <ℤ w k
  pub before : (k j : ℕ) → j < k → k < d → rows k j ≡ pos 0
  pub own : (k : ℕ) → k < d → rows k k ≢ pos 0

-- the size of an entry
abbrev pub size : ℤ → ℤ
size z = pos (unsigned_abs z)

-- the size of an entry beside the diagonal, 0 on it
abbrev pub beside : Matrix → ℕ → ℕ → ℤ
beside R i j = if i == j then pos 0 else size (R i j)

-- Each diagonal entry is at least the sum of the sizes of the others in its row.
pub record IsDominant (d : ℕ) (R : Matrix) : Type 0 where
  pub symmetric : (i j : ℕ) → i < d → j < d → R i j ≡ R j i
  pub dominant : (i : ℕ) → i < d → sum_to d (λ j. beside R i j) ≤ℤ R i i
