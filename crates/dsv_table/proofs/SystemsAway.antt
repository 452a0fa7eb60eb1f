-- A system is kept away from 0 somewhere where its characteristic polynomial is.
use Rattle.std.proofs.Common.{◌≡◌, ◌≢◌, ℕ, zero, suc, ◌<◌, ◌==◌, if◌then◌else◌, [], ◌∷◌, refl, sym, ap, subst, ◌∙◌, arith}
use Rattle.std.proofs.Math.IntN.{ℤ, pos, ◌-ℤ◌, ◌*ℤ◌, *ℤ_comm}
use Rattle.std.proofs.lemmas.Int.{ints}
use Rattle.std.proofs.lemmas.Bool.Decides.{nat_tests}
use lib.Signed.{◌<ℤ◌, ◌≤ℤ◌}
use Rattle.dsv_algebra.specs.Vectors.{Vector, Matrix, sum_to, form_at, dot, congruence}
use Rattle.dsv_algebra.specs.Falling.{step, power, trajectory, IsKeptAway}
use Rattle.dsv_algebra.specs.Companion.{companion}
use Rattle.dsv_algebra.proofs.Normaliser.{ring, env, var, num, plus, times, minus}
use Rattle.dsv_algebra.proofs.Ring.{assoc}
use Rattle.dsv_algebra.proofs.Signs.{mul_negative, mul_not_negative, square_positive, not_negative_factor}
use Rattle.dsv_algebra.proofs.Sums.{sum_same, sum_scale, sum_swap, sum_one}
use Rattle.dsv_algebra.proofs.Congruence.{form_congruence}
use Rattle.dsv_algebra.proofs.Definite.{square_not_negative}
use Rattle.dsv_algebra.proofs.KeptAway.{power_positive}
use Rattle.dsv_table.specs.Systems.{IsAnnihilated, divided, window_matrix, IsInverse, SystemsAreKeptAway}
use Rattle.dsv_table.proofs.Negative.{form_multiple}
use Rattle.dsv_table.proofs.Falls.{apart_both, power_apart}
use Rattle.dsv_table.proofs.Systems.{window, scale_of, window_row, next_form, lead_of, form_at_same}

-- ---- a form that is negative at a start and rises in no step
at_most_by : (a b : ℤ) → pos 0 ≤ℤ (b -ℤ a) → a ≤ℤ b
at_most_by a b h = omega (arith, ints, h)

times_at_most : (m a b : ℤ) → pos 0 ≤ℤ m → a ≤ℤ b → (m *ℤ a) ≤ℤ (m *ℤ b)
times_at_most m a b p h =
    let apart : pos 0 ≤ℤ (b -ℤ a) = omega (arith, ints, h) in
    at_most_by (m *ℤ a) (m *ℤ b)
    (subst (λ z. pos 0 ≤ℤ z) (ring (env (m ∷ a ∷ b ∷ [])) (times (var 0) (plus (var 2) (minus (var 1)))) (plus (times (var 0) (var 2)) (minus (times (var 0) (var 1)))) refl)
    (mul_not_negative m (b -ℤ a) p apart))

through : (a b c : ℤ) → a ≤ℤ b → b ≤ℤ c → a ≤ℤ c
through a b c p q = omega (arith, ints, p, q)

same_at_most : (a b : ℤ) → b ≡ a → a ≤ℤ b
same_at_most a b e = omega (arith, ints, e)

pub along : (d : ℕ) (q : ℤ) (M Q : Matrix) (start : Vector)
    → ((v : Vector) → form_at d Q (step d M v) ≤ℤ (q *ℤ q *ℤ form_at d Q v))
    → (n : ℕ) → form_at d Q (trajectory d M start n) ≤ℤ (power (q *ℤ q) n *ℤ form_at d Q start)
along d q M Q start holds zero = same_at_most (form_at d Q start) (pos 1 *ℤ form_at d Q start) (ring (env (form_at d Q start ∷ [])) (times (num (pos 1)) (var 0)) (var 0) refl)
along d q M Q start holds (suc n) =
    let z = q *ℤ q in
    let u = trajectory d M start n in
    rw (assoc z (power z n) (form_at d Q start))
    (through (form_at d Q (step d M u)) (z *ℤ form_at d Q u) (z *ℤ (power z n *ℤ form_at d Q start)) (holds u)
    (times_at_most z (form_at d Q u) (power z n *ℤ form_at d Q start) (square_not_negative q) (along d q M Q start holds n)))

pub below : (a b : ℤ) → a ≤ℤ b → b <ℤ pos 0 → a <ℤ pos 0
below a b p q = omega (arith, ints, p, q)

pub kept_by : (d : ℕ) (q : ℤ) (M Q : Matrix) (start : Vector) → q ≢ pos 0 → form_at d Q start <ℤ pos 0
    → ((v : Vector) → form_at d Q (step d M v) ≤ℤ (q *ℤ q *ℤ form_at d Q v)) → IsKeptAway d q M Q start
kept_by d q M Q start h negative holds = record {
  negative = negative;
  holds = holds;
  along = along d q M Q start holds;
  stays = λ n. below (form_at d Q (trajectory d M start n)) (power (q *ℤ q) n *ℤ form_at d Q start) (along d q M Q start holds n)
      (mul_negative (power (q *ℤ q) n) (form_at d Q start) (power_positive (q *ℤ q) n (square_positive q h)) negative);
}

-- ---- the form at a window
window_value : (e : ℕ) (q : ℤ) (M P : Matrix) (i : ℕ) (v : Vector) → i < suc e
    → form_at (suc e) (congruence (suc e) P (window_matrix e q M i)) v ≡ form_at (suc e) P (window e q M i v)
window_value e q M P i v b =
    sym (form_at_same (suc e) P (window e q M i v) (λ j. dot (suc e) (window_matrix e q M i j) v) (λ j p. window_row e q M i v j b)
    ∙ form_congruence (suc e) P (window_matrix e q M i) v)

pub divided_out_weakly : (k q x y : ℤ) → k ≢ pos 0 → (k *ℤ k *ℤ y) ≤ℤ ((k *ℤ q) *ℤ (k *ℤ q) *ℤ x) → y ≤ℤ (q *ℤ q *ℤ x)
divided_out_weakly k q x y n h =
    let e : (k *ℤ k) *ℤ (q *ℤ q *ℤ x -ℤ y) ≡ (k *ℤ q) *ℤ (k *ℤ q) *ℤ x -ℤ k *ℤ k *ℤ y =
    ring (env (k ∷ q ∷ x ∷ y ∷ [])) (times (times (var 0) (var 0)) (plus (times (times (var 1) (var 1)) (var 2)) (minus (var 3))))
    (plus (times (times (times (var 0) (var 1)) (times (var 0) (var 1))) (var 2)) (minus (times (times (var 0) (var 0)) (var 3)))) refl in
    at_most_by y (q *ℤ q *ℤ x) (not_negative_factor (k *ℤ k) (q *ℤ q *ℤ x -ℤ y) (square_positive k n) (rw e (omega (arith, ints, h))))

never_rises : (e : ℕ) (q : ℤ) (M P : Matrix) (a start v : Vector) (i : ℕ) → q ≢ pos 0 → a 0 ≢ pos 0 → IsAnnihilated (suc e) M a → i < suc e
    → IsKeptAway (suc e) (divided (suc e) q a 0) (companion (divided (suc e) q a)) P start
    → form_at (suc e) P (window e q M i (step (suc e) M v)) ≤ℤ (q *ℤ q *ℤ form_at (suc e) P (window e q M i v))
never_rises e q M P a start v i n m h b f =
    let k = scale_of e q a in
    let x = form_at (suc e) P (window e q M i v) in
    let y = form_at (suc e) P (window e q M i (step (suc e) M v)) in
    let c0 = divided (suc e) q a 0 in
    let less : (k *ℤ k *ℤ y) ≤ℤ (c0 *ℤ c0 *ℤ x) = subst (λ z. z ≤ℤ (c0 *ℤ c0 *ℤ x)) (next_form e q M P a v i h b) (f.holds (window e q M i v)) in
    divided_out_weakly k q x y (apart_both (a 0) (power q e) m (power_apart q e n))
    (subst (λ z. (k *ℤ k *ℤ y) ≤ℤ (z *ℤ z *ℤ x)) (lead_of e q a) less)

-- ---- the start
abbrev image : ℕ → Matrix → Vector → Vector
image d B s l = sum_to d (λ k. B l k *ℤ s k)

product_row : (d : ℕ) (r s : Vector) (B : Matrix) → dot d r (image d B s) ≡ sum_to d (λ k. sum_to d (λ l. r l *ℤ B l k) *ℤ s k)
product_row d r s B =
    sum_same d (λ l. r l *ℤ image d B s l) (λ l. sum_to d (λ k. r l *ℤ B l k *ℤ s k))
    (λ l p. sym (sum_scale d (r l) (λ k. B l k *ℤ s k))
    ∙ sum_same d (λ k. r l *ℤ (B l k *ℤ s k)) (λ k. r l *ℤ B l k *ℤ s k) (λ k b. ring (env (r l ∷ B l k ∷ s k ∷ [])) (times (var 0) (times (var 1) (var 2))) (times (times (var 0) (var 1)) (var 2)) refl))
    ∙ sum_swap d d (λ l k. r l *ℤ B l k *ℤ s k)
    ∙ sum_same d (λ k. sum_to d (λ l. r l *ℤ B l k *ℤ s k)) (λ k. sum_to d (λ l. r l *ℤ B l k) *ℤ s k)
    (λ k b. sum_same d (λ l. r l *ℤ B l k *ℤ s k) (λ l. s k *ℤ (r l *ℤ B l k)) (λ l p. *ℤ_comm (r l *ℤ B l k) (s k))
    ∙ sum_scale d (s k) (λ l. r l *ℤ B l k) ∙ *ℤ_comm (s k) (sum_to d (λ l. r l *ℤ B l k)))

pub own_place : (j : ℕ) (t y : ℤ) → (if j == j then t else pos 0) *ℤ y ≡ t *ℤ y
own_place j t y = ap (λ z. z *ℤ y) (grind (arith, nat_tests))

pub other_place : (j k : ℕ) (t y : ℤ) → j ≢ k → (if j == k then t else pos 0) *ℤ y ≡ pos 0
other_place j k t y n =
    let e : (if j == k then t else pos 0) ≡ pos 0 = grind (arith, nat_tests) in
    rw e (ring (env (y ∷ [])) (times (num (pos 0)) (var 0)) (num (pos 0)) refl)

window_start : (e : ℕ) (q : ℤ) (M B : Matrix) (i : ℕ) (t : ℤ) (s : Vector) → i < suc e → IsInverse (suc e) (window_matrix e q M i) B t
    → (j : ℕ) → j < suc e → window e q M i (image (suc e) B s) j ≡ t *ℤ s j
window_start e q M B i t s b h j p =
    let d = suc e in
    window_row e q M i (image d B s) j b
    ∙ product_row d (window_matrix e q M i j) s B
    ∙ sum_same d (λ k. sum_to d (λ l. window_matrix e q M i j l *ℤ B l k) *ℤ s k) (λ k. (if j == k then t else pos 0) *ℤ s k) (λ k r. ap (λ z. z *ℤ s k) (h j k p r))
    ∙ sum_one d (λ k. (if j == k then t else pos 0) *ℤ s k) j p (λ k r n. other_place j k t (s k) (λ x. n (sym x)))
    ∙ own_place j t (s j)

pub systems_are_kept_away : SystemsAreKeptAway
systems_are_kept_away e q M a i B t n m h b apart inverse (P, s, f) =
    let d = suc e in
    let Q = congruence d P (window_matrix e q M i) in
    let v = image d B s in
    let same : form_at d Q v ≡ t *ℤ t *ℤ form_at d P s =
    window_value e q M P i v b
    ∙ form_at_same d P (window e q M i v) (λ j. t *ℤ s j) (window_start e q M B i t s b inverse)
    ∙ form_multiple d P t s in (
      Q,
      v,
      kept_by d q M Q v n (rw same (mul_negative (t *ℤ t) (form_at d P s) (square_positive t apart) f.negative))
          (λ u. rw (window_value e q M P i u b, window_value e q M P i (step d M u) b) (never_rises e q M P a s u i n m h b f)),
    )
