-- Forms that fall, or never rise, along the trajectories of a system.
--
-- A system of d places takes a vector v to M v divided by q, for an integer matrix M and an integer
-- q other than 0. So that all entries are whole, a trajectory here leaves out the divisions: its
-- n-th vector is q^n times the system's. A form that is positive and less after each step, that
-- step divided by q, is a Lyapunov function of the system.
use Rattle.std.specs.Prelude.{◌≡◌, ℕ, zero, suc, ℤ, pos}
use Rattle.std.specs.Prelude.{◌-ℤ◌, ◌*ℤ◌, ◌<ℤ◌, ◌≤ℤ◌}
use Rattle.dsv_algebra.specs.Vectors.{Vector, Matrix, dot, form_at, congruence, IsNotZero}

-- one step of a trajectory: M v
abbrev pub step : ℕ → Matrix → Vector → Vector
step d M v i = dot d (M i) v

-- The form is positive at each integer vector other than 0, and less after a step, that step
-- divided by q.
pub record StrictlyFalls (d : ℕ) (q : ℤ) (M P : Matrix) : Type 0 where
  pub positive : (v : Vector) → IsNotZero d v → pos 0 <ℤ form_at d P v
  pub falls : (v : Vector) → IsNotZero d v → form_at d P (step d M v) <ℤ (q *ℤ q *ℤ form_at d P v)

-- z times itself, n times
abbrev pub power : ℤ → ℕ → ℤ
power z zero = pos 1
power z (suc n) = z *ℤ power z n

-- the n-th vector of a trajectory: n steps after its start
abbrev pub trajectory : ℕ → Matrix → Vector → ℕ → Vector
trajectory d M start zero = start
trajectory d M start (suc n) = step d M (trajectory d M start n)

-- The form is negative at the start and rises in no step, that step divided by q. So along the
-- trajectory from the start it stays at most at its first value, each step divided by q, and
-- negative: the trajectory is kept away from 0.
pub record IsKeptAway (d : ℕ) (q : ℤ) (M P : Matrix) (start : Vector) : Type 0 where
  pub negative : form_at d P start <ℤ pos 0
  pub holds : (v : Vector) → form_at d P (step d M v) ≤ℤ (q *ℤ q *ℤ form_at d P v)
  pub along : (n : ℕ) → form_at d P (trajectory d M start n) ≤ℤ
      (power (q *ℤ q) n *ℤ form_at d P start)
  pub stays : (n : ℕ) → form_at d P (trajectory d M start n) <ℤ pos 0

-- What a form loses in a step: at each vector F is q squared times P less P after the step.
abbrev pub IsLoss : ℕ → ℤ → Matrix → Matrix → Matrix → Type 0
IsLoss d q M P F = (v : Vector)
    → form_at d F v ≡ q *ℤ q *ℤ form_at d P v -ℤ form_at d P (step d M v)

-- the matrix of what P loses in a step: q^2 P - M^T P M
abbrev pub fall_form : ℕ → ℤ → Matrix → Matrix → Matrix
fall_form d q M P i j = q *ℤ q *ℤ P i j -ℤ congruence d P M i j
