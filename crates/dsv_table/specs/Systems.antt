-- What a form of a polynomial says of a system that the polynomial annihilates.
use Rattle.std.specs.Prelude.{◌==◌, if◌then◌else◌, ◌≡◌, ◌≢◌, ℕ, zero, suc, ◌-◌, ◌<◌}
use Rattle.std.specs.Prelude.{ℤ, pos, ◌*ℤ◌}
use Rattle.dsv_algebra.specs.Vectors.{Vector, Matrix, sum_to}
use Rattle.dsv_algebra.specs.Falling.{power, trajectory, StrictlyFalls, IsKeptAway}
use Rattle.dsv_table.specs.Verdicts.{HasFallingForm, HasKeptAwayForm}

-- Each place of each trajectory of the system with the matrix M, each step not divided, obeys the
-- polynomial a of order d; as that of the characteristic polynomial of M.
abbrev pub IsAnnihilated : ℕ → Matrix → Vector → Type 0
IsAnnihilated d M a = (v : Vector) (i : ℕ) → i < d
    → sum_to (suc d) (λ k. a k *ℤ trajectory d M v (d - k) i) ≡ pos 0

-- the polynomial for steps that are divided by q
abbrev pub divided : ℕ → ℤ → Vector → Vector
divided d q a k = a k *ℤ power q (d - k)

-- A system of d places has a form that strictly falls if its polynomial has one.
abbrev pub SystemsFall : Type 0
SystemsFall = (e : ℕ) (q : ℤ) (M : Matrix) (a : Vector) → q ≢ pos 0 → a 0 ≢ pos 0
    → IsAnnihilated (suc e) M a → HasFallingForm (suc e) (divided (suc e) q a)
    → (Q : Matrix) × StrictlyFalls (suc e) q M Q

-- the matrix M, k times
abbrev pub matrix_power : ℕ → Matrix → ℕ → Matrix
matrix_power d M zero i l = if i == l then pos 1 else pos 0
matrix_power d M (suc k) i l = sum_to d (λ m. M i m *ℤ matrix_power d M k m l)

-- The matrix that takes a start to the values of one place of the system at e + 1 times in turn,
-- the last one first, each times a power of q.
abbrev pub window_matrix : ℕ → ℤ → Matrix → ℕ → Matrix
window_matrix e q M i j l = power q j *ℤ matrix_power (suc e) M (e - j) i l

-- B is t times the inverse of W, in the first d places.
abbrev pub IsInverse : ℕ → Matrix → Matrix → ℤ → Type 0
IsInverse d W B t = (j k : ℕ) → j < d → k < d
    → sum_to d (λ l. W j l *ℤ B l k) ≡ (if j == k then t else pos 0)

-- A system of d places is kept away from 0 somewhere if its polynomial is, and the values of one
-- place tell the start.
abbrev pub SystemsAreKeptAway : Type 0
SystemsAreKeptAway = (e : ℕ) (q : ℤ) (M : Matrix) (a : Vector) (i : ℕ) (B : Matrix) (t : ℤ)
    → q ≢ pos 0 → a 0 ≢ pos 0 → IsAnnihilated (suc e) M a → i < suc e
    → t ≢ pos 0 → IsInverse (suc e) (window_matrix e q M i) B t
    → HasKeptAwayForm (suc e) (divided (suc e) q a)
    → (Q : Matrix) × (start : Vector) × IsKeptAway (suc e) q M Q start
