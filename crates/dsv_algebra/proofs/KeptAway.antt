-- A form that is negative at a start and rises in no step.
use Rattle.std.proofs.Common.{◌≡◌, ◌≢◌, ℕ, zero, suc, ◌<◌, [], ◌∷◌, refl, arith}
use Rattle.std.proofs.Math.IntN.{ℤ, pos, ◌+ℤ◌, ◌-ℤ◌, ◌*ℤ◌}
use Rattle.std.proofs.lemmas.Int.{ints}
use lib.Signed.{◌<ℤ◌, ◌≤ℤ◌}
use Rattle.dsv_algebra.proofs.Normaliser.{ring, env, var, num, plus, times, minus}
use Rattle.dsv_algebra.proofs.Ring.{assoc}
use Rattle.dsv_algebra.proofs.Signs.{mul_positive, square_positive, mul_negative, mul_not_negative}
use Rattle.dsv_algebra.specs.Vectors.{Vector, Matrix, form_at}
use Rattle.dsv_algebra.specs.Falling.{step, fall_form, power, trajectory, IsKeptAway}
use Rattle.dsv_algebra.specs.Squares.{squares, IsDominant}
use Rattle.dsv_algebra.proofs.Definite.{semidefinite_not_negative, weakly}
use Rattle.dsv_algebra.proofs.Falling.{loss-fall_form}

-- Weighted squares of rows and a dominant rest, that are m times a form; the weights are 0 or more.
pub record ShowNotNegative (d : ℕ) (T : Matrix) : Type 0 where
  pub scale : ℤ
  pub count : ℕ
  pub weights : Vector
  pub rows : ℕ → Vector
  pub rest : Matrix
  pub positive : pos 0 <ℤ scale
  pub identity : (i j : ℕ) → i < d → j < d → scale *ℤ T i j ≡ squares count weights rows i j +ℤ rest i j
  pub weight : (k : ℕ) → k < count → pos 0 ≤ℤ weights k
  pub dominant : IsDominant d rest

pub shown_not_negative : (d : ℕ) (T : Matrix) (v : Vector) → ShowNotNegative d T → pos 0 ≤ℤ form_at d T v
shown_not_negative d T v s =
    semidefinite_not_negative d s.count s.scale T s.rest s.weights s.rows v s.positive s.identity s.weight s.dominant

at_most_by : (a b d : ℤ) → d ≡ b -ℤ a → pos 0 ≤ℤ d → a ≤ℤ b
at_most_by a b d e h = omega (arith, ints)

-- both sides times a number that isn't negative
scaled : (m a b : ℤ) → pos 0 ≤ℤ m → a ≤ℤ b → (m *ℤ a) ≤ℤ (m *ℤ b)
scaled m a b p h =
    let apart : pos 0 ≤ℤ (b -ℤ a) = omega (arith, ints) in
    at_most_by (m *ℤ a) (m *ℤ b) (m *ℤ (b -ℤ a))
    (ring (env (m ∷ a ∷ b ∷ [])) (times (var 0) (plus (var 2) (minus (var 1)))) (plus (times (var 0) (var 2)) (minus (times (var 0) (var 1)))) refl)
    (mul_not_negative m (b -ℤ a) p apart)

at_most_through : (a b c : ℤ) → a ≤ℤ b → b ≤ℤ c → a ≤ℤ c
at_most_through a b c p q = omega (arith, ints)

one_times : (a : ℤ) → pos 1 *ℤ a ≡ a
one_times a = ring (env (a ∷ [])) (times (num (pos 1)) (var 0)) (var 0) refl

same_at_most : (a b : ℤ) → b ≡ a → a ≤ℤ b
same_at_most a b e = omega (arith, ints)

negative_below : (a b : ℤ) → a ≤ℤ b → b <ℤ pos 0 → a <ℤ pos 0
negative_below a b p q = omega (arith, ints)

pub power_positive : (z : ℤ) (n : ℕ) → pos 0 <ℤ z → pos 0 <ℤ power z n
power_positive z zero h = omega (arith, ints)
power_positive z (suc n) h = mul_positive z (power z n) h (power_positive z n h)

-- what holds of each step holds of a trajectory
along : (d : ℕ) (q : ℤ) (M P : Matrix) (start : Vector) → q ≢ pos 0
    → ((v : Vector) → form_at d P (step d M v) ≤ℤ (q *ℤ q *ℤ form_at d P v))
    → (n : ℕ) → form_at d P (trajectory d M start n) ≤ℤ (power (q *ℤ q) n *ℤ form_at d P start)
along d q M P start h holds zero = same_at_most (form_at d P start) (pos 1 *ℤ form_at d P start) (one_times (form_at d P start))
along d q M P start h holds (suc n) =
    let z = q *ℤ q in
    let u = trajectory d M start n in
    let first = form_at d P start in
    rw (assoc z (power z n) first) (
    at_most_through (form_at d P (step d M u)) (z *ℤ form_at d P u) (z *ℤ (power z n *ℤ first)) (holds u)
    (scaled z (form_at d P u) (power z n *ℤ first) (weakly z (square_positive q h)) (along d q M P start h holds n))
    )

-- A form that is negative at the start is kept away where squares show its fall form nowhere negative.
pub kept_away : (d : ℕ) (q : ℤ) (M P : Matrix) (start : Vector) → q ≢ pos 0 → form_at d P start <ℤ pos 0
    → ShowNotNegative d (fall_form d q M P) → IsKeptAway d q M P start
kept_away d q M P start apart negative shown =
    let holds : (v : Vector) → form_at d P (step d M v) ≤ℤ (q *ℤ q *ℤ form_at d P v) =
    λ v. at_most_by (form_at d P (step d M v)) (q *ℤ q *ℤ form_at d P v) (form_at d (fall_form d q M P) v) (loss-fall_form d q M P v) (shown_not_negative d (fall_form d q M P) v shown) in
    let z = q *ℤ q in
    record {
      negative = negative;
      holds = holds;
      along = along d q M P start apart holds;
      stays = λ n. negative_below (form_at d P (trajectory d M start n)) (power z n *ℤ form_at d P start) (along d q M P start apart holds n)
          (mul_negative (power z n) (form_at d P start) (power_positive z n (square_positive q apart)) negative);
    }
