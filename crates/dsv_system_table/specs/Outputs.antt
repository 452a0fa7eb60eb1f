-- Outputs of a linear system, which are rows times its vectors, and what their polynomials say of
-- the system.
use Rattle.std.specs.Prelude.{◌==◌, if◌then◌else◌, ◌≡◌, ◌≢◌, ℕ, zero, suc, ◌-◌, ◌<◌}
use Rattle.std.specs.Prelude.{ℤ, pos, ◌*ℤ◌}
use Rattle.dsv_algebra.specs.Vectors.{Vector, Matrix, sum_to}
use Rattle.dsv_algebra.specs.Falling.{IsKeptAway}
use Rattle.dsv_table.specs.Verdicts.{HasKeptAwayForm}
use Rattle.dsv_table.specs.Systems.{divided}

-- the row whose only entry other than 0 is 1 at place i
abbrev pub unit : ℕ → Vector
unit i l = if i == l then pos 1 else pos 0

-- the row w times the matrix M, k times: times a vector it is the output w of that k steps later
abbrev pub row_power : ℕ → Matrix → Vector → ℕ → Vector
row_power d M w zero l = w l
row_power d M w (suc k) l = sum_to d (λ m. row_power d M w k m *ℤ M m l)

-- The output w of each trajectory of the system obeys the polynomial a of order m.
abbrev pub IsObeyed : ℕ → ℕ → Matrix → Vector → Vector → Type 0
IsObeyed d m M w a = (l : ℕ) → l < d
    → sum_to (suc m) (λ k. a k *ℤ row_power d M w (m - k) l) ≡ pos 0

-- The product of the first m rows of R and the first m columns of B, over d places, is t times the
-- unit matrix.
abbrev pub IsRightInverse : ℕ → ℕ → Matrix → Matrix → ℤ → Type 0
IsRightInverse d m R B t = (j k : ℕ) → j < m → k < m
    → sum_to d (λ l. R j l *ℤ B l k) ≡ (if j == k then t else pos 0)

-- A system is kept away from 0 somewhere if an output obeys a polynomial that is, and any values of
-- the output at as many times as the polynomial has roots come from a start. The order of the
-- polynomial may be less than the system's.
abbrev pub OutputsKeepAway : Type 0
OutputsKeepAway = (d e : ℕ) (q : ℤ) (M : Matrix) (w a : Vector) (B : Matrix) (t : ℤ)
    → q ≢ pos 0 → a 0 ≢ pos 0 → IsObeyed d (suc e) M w a
    → t ≢ pos 0 → IsRightInverse d (suc e) (row_power d M w) B t
    → HasKeptAwayForm (suc e) (divided (suc e) q a)
    → (Q : Matrix) × (start : Vector) × IsKeptAway d q M Q start
