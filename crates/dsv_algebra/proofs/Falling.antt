-- What squares show of a form along the trajectories of a system.
use Rattle.std.proofs.Common.{◌≡◌, ℕ, ◌<◌, refl, ◌∙◌, arith}
use Rattle.std.proofs.Math.IntN.{ℤ, pos, ◌+ℤ◌, ◌-ℤ◌, ◌*ℤ◌, neg_ℤ}
use Rattle.std.proofs.lemmas.Int.{ints}
use lib.Signed.{◌<ℤ◌}
use Rattle.dsv_algebra.specs.Vectors.{Vector, Matrix, form_at, congruence, IsNotZero}
use Rattle.dsv_algebra.specs.Falling.{step, StrictlyFalls, IsLoss, fall_form}
use Rattle.dsv_algebra.specs.Squares.{squares, IsTriangular, IsDominant}
use Rattle.dsv_algebra.proofs.Sums.{form_add, form_scale, form_neg}
use Rattle.dsv_algebra.proofs.Congruence.{form_congruence}
use Rattle.dsv_algebra.proofs.Definite.{definite_positive}

-- the fall form is what the form loses
pub loss-fall_form : (d : ℕ) (q : ℤ) (M P : Matrix) → IsLoss d q M P (fall_form d q M P)
loss-fall_form d q M P v =
    form_add d (λ i j. q *ℤ q *ℤ P i j) (λ i j. neg_ℤ (congruence d P M i j)) v
    ∙ rw (form_scale d (q *ℤ q) P v, form_congruence d P M v, form_neg d (congruence d P M) v) refl

-- Weighted squares of triangular rows and a dominant rest, that are m times a form.
pub record ShowPositive (d : ℕ) (T : Matrix) : Type 0 where
  pub scale : ℤ
  pub weights : Vector
  pub rows : ℕ → Vector
  pub rest : Matrix
  pub positive : pos 0 <ℤ scale
  pub identity : (i j : ℕ) → i < d → j < d → scale *ℤ T i j ≡ squares d weights rows i j +ℤ rest i j
  pub triangular : IsTriangular d weights rows
  pub dominant : IsDominant d rest

pub shown_positive : (d : ℕ) (T : Matrix) (v : Vector) → ShowPositive d T → IsNotZero d v → pos 0 <ℤ form_at d T v
shown_positive d T v s (i, below, apart) =
    definite_positive d s.scale T s.rest s.weights s.rows v i s.positive s.identity s.triangular s.dominant below apart

less_by : (a b d : ℤ) → d ≡ b -ℤ a → pos 0 <ℤ d → a <ℤ b
less_by a b d e h = omega (arith, ints)

-- A form strictly falls where squares show it and its fall form positive.
pub strictly_falls : (d : ℕ) (q : ℤ) (M P : Matrix) → ShowPositive d P → ShowPositive d (fall_form d q M P) → StrictlyFalls d q M P
strictly_falls d q M P p f = record {
  positive = λ v n. shown_positive d P v p n;
  falls = λ v n. less_by (form_at d P (step d M v)) (q *ℤ q *ℤ form_at d P v) (form_at d (fall_form d q M P) v)
      (loss-fall_form d q M P v) (shown_positive d (fall_form d q M P) v f n);
}
