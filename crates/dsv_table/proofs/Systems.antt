-- A system falls where its characteristic polynomial does.
--
-- The window of a place of a trajectory: its next e values and its own, each times a power of q, so that the polynomial's
-- companion matrix takes the window to a multiple of the next one. The sum of the polynomial's form over the windows of all
-- places falls along the system.
use Rattle.std.proofs.Common.{◌≡◌, ◌≢◌, ℕ, zero, suc, ◌+◌, ◌-◌, ◌<◌, ◌==◌, if◌then◌else◌, [], ◌∷◌, inl, inr, refl, sym, ap, subst, ◌∙◌, arith}
use Rattle.std.proofs.Math.IntN.{ℤ, pos, ◌+ℤ◌, ◌-ℤ◌, ◌*ℤ◌, *ℤ_comm, ℤ_discrete}
use Rattle.std.proofs.lemmas.Int.{ints}
use Rattle.std.proofs.lemmas.Bool.Decides.{nat_tests}
use lib.Signed.{◌<ℤ◌, ◌≤ℤ◌}
use Rattle.dsv_algebra.specs.Vectors.{Vector, Matrix, sum_to, form_at, dot, congruence, IsNotZero}
use Rattle.dsv_algebra.specs.Falling.{step, power, trajectory, StrictlyFalls}
use Rattle.dsv_algebra.specs.Companion.{companion}
use Rattle.dsv_algebra.proofs.Normaliser.{ring, env, var, num, plus, times, minus}
use Rattle.dsv_algebra.proofs.Signs.{square_positive, positive_factor}
use Rattle.dsv_algebra.proofs.Sums.{sum_same, sum_first, sum_scale, sum_swap, sum_one, sum_positive}
use Rattle.dsv_algebra.proofs.Congruence.{form_congruence, form_sum}
use Rattle.dsv_algebra.proofs.Definite.{weakly}
use Rattle.dsv_table.specs.Systems.{IsAnnihilated, divided, SystemsFall, matrix_power, window_matrix}
use Rattle.dsv_table.proofs.Identity.{sum_less}
use Rattle.dsv_table.proofs.Positive.{form_none, none_from}
use Rattle.dsv_table.proofs.Negative.{form_multiple}
use Rattle.dsv_table.proofs.Falls.{none_or_some, moved_place, new_value, apart_both, power_apart, less_by}

-- ---- powers of the matrix
own_place : (i : ℕ) (y : ℤ) → (if i == i then pos 1 else pos 0) *ℤ y ≡ y
own_place i y =
    let e : (if i == i then pos 1 else pos 0) ≡ pos 1 = grind (arith, nat_tests) in
    rw e (ring (env (y ∷ [])) (times (num (pos 1)) (var 0)) (var 0) refl)

other_place : (i k : ℕ) (y : ℤ) → i ≢ k → (if i == k then pos 1 else pos 0) *ℤ y ≡ pos 0
other_place i k y n =
    let e : (if i == k then pos 1 else pos 0) ≡ pos 0 = grind (arith, nat_tests) in
    rw e (ring (env (y ∷ [])) (times (num (pos 0)) (var 0)) (num (pos 0)) refl)

-- a place of a trajectory is a row of the power times its start
trajectory_power : (d : ℕ) (M : Matrix) (v : Vector) (k i : ℕ) → i < d → trajectory d M v k i ≡ dot d (matrix_power d M k i) v
trajectory_power d M v zero i b =
    sym (sum_one d (λ l. (if i == l then pos 1 else pos 0) *ℤ v l) i b (λ l p n. other_place i l (v l) (λ q. n (sym q))) ∙ own_place i (v i))
trajectory_power d M v (suc k) i b =
    sum_same d (λ m. M i m *ℤ trajectory d M v k m) (λ m. sum_to d (λ l. M i m *ℤ matrix_power d M k m l *ℤ v l))
    (λ m p. rw (trajectory_power d M v k m p)
    (sym (sum_scale d (M i m) (λ l. matrix_power d M k m l *ℤ v l))
    ∙ sum_same d (λ l. M i m *ℤ (matrix_power d M k m l *ℤ v l)) (λ l. M i m *ℤ matrix_power d M k m l *ℤ v l)
    (λ l q. ring (env (M i m ∷ matrix_power d M k m l ∷ v l ∷ [])) (times (var 0) (times (var 1) (var 2))) (times (times (var 0) (var 1)) (var 2)) refl)))
    ∙ sum_swap d d (λ m l. M i m *ℤ matrix_power d M k m l *ℤ v l)
    ∙ sum_same d (λ l. sum_to d (λ m. M i m *ℤ matrix_power d M k m l *ℤ v l)) (λ l. sum_to d (λ m. M i m *ℤ matrix_power d M k m l) *ℤ v l)
    (λ l q. sum_same d (λ m. M i m *ℤ matrix_power d M k m l *ℤ v l) (λ m. v l *ℤ (M i m *ℤ matrix_power d M k m l)) (λ m p. *ℤ_comm (M i m *ℤ matrix_power d M k m l) (v l))
    ∙ sum_scale d (v l) (λ m. M i m *ℤ matrix_power d M k m l) ∙ *ℤ_comm (v l) (sum_to d (λ m. M i m *ℤ matrix_power d M k m l)))

-- a step first and then the others
pub trajectory_later : (d : ℕ) (M : Matrix) (v : Vector) (k i : ℕ) → trajectory d M (step d M v) k i ≡ trajectory d M v (suc k) i
trajectory_later d M v zero i = refl
trajectory_later d M v (suc k) i = sum_same d (λ m. M i m *ℤ trajectory d M (step d M v) k m) (λ m. M i m *ℤ trajectory d M v (suc k) m) (λ m p. ap (λ z. M i m *ℤ z) (trajectory_later d M v k m))

-- ---- windows
abbrev pub window : ℕ → ℤ → Matrix → ℕ → Vector → Vector
window e q M i v j = power q j *ℤ trajectory (suc e) M v (e - j) i

pub window_row : (e : ℕ) (q : ℤ) (M : Matrix) (i : ℕ) (v : Vector) (j : ℕ) → i < suc e → window e q M i v j ≡ dot (suc e) (window_matrix e q M i j) v
window_row e q M i v j b =
    ap (λ z. power q j *ℤ z) (trajectory_power (suc e) M v (e - j) i b)
    ∙ sym (sum_scale (suc e) (power q j) (λ l. matrix_power (suc e) M (e - j) i l *ℤ v l))
    ∙ sum_same (suc e) (λ l. power q j *ℤ (matrix_power (suc e) M (e - j) i l *ℤ v l)) (λ l. power q j *ℤ matrix_power (suc e) M (e - j) i l *ℤ v l)
    (λ l p. ring (env (power q j ∷ matrix_power (suc e) M (e - j) i l ∷ v l ∷ [])) (times (var 0) (times (var 1) (var 2))) (times (times (var 0) (var 1)) (var 2)) refl)

pub power_sum : (q : ℤ) (n k m : ℕ) → m ≡ n + k → power q n *ℤ power q k ≡ power q m
power_sum q zero k m h =
    let t : k ≡ m = omega arith in
    rw t (ring (env (power q m ∷ [])) (times (num (pos 1)) (var 0)) (var 0) refl)
power_sum q (suc n) k m h =
    let t : m ≡ suc (n + k) = omega arith in
    rw (t, ← power_sum q n k (n + k) refl)
    (ring (env (q ∷ power q n ∷ power q k ∷ [])) (times (times (var 0) (var 1)) (var 2)) (times (var 0) (times (var 1) (var 2))) refl)

-- ---- the companion matrix takes a window to a multiple of the next one
abbrev pub scale_of : ℕ → ℤ → Vector → ℤ
scale_of e q a = a 0 *ℤ power q e

pub window_term : (e : ℕ) (q : ℤ) (a T : Vector) (j : ℕ) → j < suc e
    → divided (suc e) q a (suc j) *ℤ (power q j *ℤ T (e - j)) ≡ power q e *ℤ (a (suc j) *ℤ T (suc e - suc j))
window_term e q a T j b =
    let t : suc e - suc j ≡ e - j = omega arith in
    rw (t, ← power_sum q (e - j) j e (omega arith))
    (ring (env (a (suc j) ∷ power q (e - j) ∷ power q j ∷ T (e - j) ∷ []))
    (times (times (var 0) (var 1)) (times (var 2) (var 3))) (times (times (var 1) (var 2)) (times (var 0) (var 3))) refl)

pub from_sum : (p x s t : ℤ) → x *ℤ t +ℤ s ≡ pos 0 → pos 0 -ℤ p *ℤ s ≡ (x *ℤ p) *ℤ (pos 1 *ℤ t)
from_sum p x s t h =
    let e : s ≡ pos 0 -ℤ x *ℤ t = omega (arith, ints, h) in
    rw e (ring (env (p ∷ x ∷ t ∷ [])) (plus (num (pos 0)) (minus (times (var 0) (plus (num (pos 0)) (minus (times (var 1) (var 2))))))) (times (times (var 1) (var 0)) (times (num (pos 1)) (var 2))) refl)

step_window : (e : ℕ) (q : ℤ) (M : Matrix) (a v : Vector) (i : ℕ) → IsAnnihilated (suc e) M a → i < suc e → (j : ℕ) → j < suc e
    → step (suc e) (companion (divided (suc e) q a)) (window e q M i v) j ≡ scale_of e q a *ℤ window e q M i (step (suc e) M v) j
step_window e q M a v i h b zero p =
    let d = suc e in
    let c = divided d q a in
    let T : Vector = λ k. trajectory d M v k i in
    let z : suc e - 0 ≡ suc e = omega arith in
    let y : e - 0 ≡ e = omega arith in
    let s = sum_to d (λ j. a (suc j) *ℤ T (suc e - suc j)) in
    let whole : a 0 *ℤ T (suc e) +ℤ s ≡ pos 0 = ap (λ k. a 0 *ℤ T k +ℤ s) (sym z) ∙ sym (sum_first d (λ k. a k *ℤ T (d - k))) ∙ h v i b in
    new_value e c (window e q M i v)
    ∙ ap (λ x. pos 0 -ℤ x) (sum_same d (λ j. c (suc j) *ℤ window e q M i v j) (λ j. power q e *ℤ (a (suc j) *ℤ T (suc e - suc j))) (λ j r. window_term e q a T j r)
    ∙ sum_scale d (power q e) (λ j. a (suc j) *ℤ T (suc e - suc j)))
    ∙ from_sum (power q e) (a 0) s (T (suc e)) whole
    ∙ ap (λ x. (a 0 *ℤ power q e) *ℤ (pos 1 *ℤ x)) (sym (trajectory_later d M v e i) ∙ ap (λ k. trajectory d M (step d M v) k i) (sym y))
step_window e q M a v i h b (suc j) p =
    let d = suc e in
    let c = divided d q a in
    let T : Vector = λ k. trajectory d M v k i in
    let z : suc e - 0 ≡ suc e = omega arith in
    let y : e - j ≡ suc (e - suc j) = omega arith in
    moved_place e c (window e q M i v) j (omega arith)
    ∙ rw (z, y, trajectory_later d M v (e - suc j) i)
    (ring (env (a 0 ∷ q ∷ power q e ∷ power q j ∷ T (suc (e - suc j)) ∷ []))
    (times (times (var 0) (times (var 1) (var 2))) (times (var 3) (var 4)))
    (times (times (var 0) (var 2)) (times (times (var 1) (var 3)) (var 4))) refl)

-- ---- a form at a window and at the next one
pub form_at_same : (d : ℕ) (P : Matrix) (u w : Vector) → ((j : ℕ) → j < d → u j ≡ w j) → form_at d P u ≡ form_at d P w
form_at_same d P u w h =
    sum_same d (λ i. sum_to d (λ j. P i j *ℤ u i *ℤ u j)) (λ i. sum_to d (λ j. P i j *ℤ w i *ℤ w j))
    (λ i a. sum_same d (λ j. P i j *ℤ u i *ℤ u j) (λ j. P i j *ℤ w i *ℤ w j) (λ j b. rw (h i a, h j b) refl))

pub next_form : (e : ℕ) (q : ℤ) (M P : Matrix) (a v : Vector) (i : ℕ) → IsAnnihilated (suc e) M a → i < suc e
    → form_at (suc e) P (step (suc e) (companion (divided (suc e) q a)) (window e q M i v))
    ≡ scale_of e q a *ℤ scale_of e q a *ℤ form_at (suc e) P (window e q M i (step (suc e) M v))
next_form e q M P a v i h b =
    form_at_same (suc e) P (step (suc e) (companion (divided (suc e) q a)) (window e q M i v)) (λ j. scale_of e q a *ℤ window e q M i (step (suc e) M v) j)
    (step_window e q M a v i h b)
    ∙ form_multiple (suc e) P (scale_of e q a) (window e q M i (step (suc e) M v))

abbrev gain : ℕ → ℤ → Matrix → Matrix → Vector → ℕ → ℤ
gain e q M P v i = q *ℤ q *ℤ form_at (suc e) P (window e q M i v) -ℤ form_at (suc e) P (window e q M i (step (suc e) M v))

pub divided_out : (k q x y : ℤ) → k ≢ pos 0 → (k *ℤ k *ℤ y) <ℤ ((k *ℤ q) *ℤ (k *ℤ q) *ℤ x) → pos 0 <ℤ (q *ℤ q *ℤ x -ℤ y)
divided_out k q x y n h =
    let e : (k *ℤ k) *ℤ (q *ℤ q *ℤ x -ℤ y) ≡ (k *ℤ q) *ℤ (k *ℤ q) *ℤ x -ℤ k *ℤ k *ℤ y =
    ring (env (k ∷ q ∷ x ∷ y ∷ [])) (times (times (var 0) (var 0)) (plus (times (times (var 1) (var 1)) (var 2)) (minus (var 3))))
    (plus (times (times (times (var 0) (var 1)) (times (var 0) (var 1))) (var 2)) (minus (times (times (var 0) (var 0)) (var 3)))) refl in
    positive_factor (k *ℤ k) (q *ℤ q *ℤ x -ℤ y) (square_positive k n) (rw e (omega (arith, ints, h)))

pub lead_of : (e : ℕ) (q : ℤ) (a : Vector) → divided (suc e) q a 0 ≡ scale_of e q a *ℤ q
lead_of e q a =
    let z : suc e - 0 ≡ suc e = omega arith in
    rw z (ring (env (a 0 ∷ q ∷ power q e ∷ [])) (times (var 0) (times (var 1) (var 2))) (times (times (var 0) (var 2)) (var 1)) refl)

gain_positive : (e : ℕ) (q : ℤ) (M P : Matrix) (a v : Vector) (i : ℕ) → q ≢ pos 0 → a 0 ≢ pos 0 → IsAnnihilated (suc e) M a → i < suc e
    → StrictlyFalls (suc e) (divided (suc e) q a 0) (companion (divided (suc e) q a)) P → IsNotZero (suc e) (window e q M i v) → pos 0 <ℤ gain e q M P v i
gain_positive e q M P a v i n m h b f w =
    let k = scale_of e q a in
    let x = form_at (suc e) P (window e q M i v) in
    let y = form_at (suc e) P (window e q M i (step (suc e) M v)) in
    let c0 = divided (suc e) q a 0 in
    let less : (k *ℤ k *ℤ y) <ℤ (c0 *ℤ c0 *ℤ x) = subst (λ z. z <ℤ (c0 *ℤ c0 *ℤ x)) (next_form e q M P a v i h b) (f.falls (window e q M i v) w) in
    divided_out k q x y (apart_both (a 0) (power q e) m (power_apart q e n))
    (subst (λ z. (k *ℤ k *ℤ y) <ℤ (z *ℤ z *ℤ x)) (lead_of e q a) less)

none_times : (k y : ℤ) → k ≢ pos 0 → k *ℤ y ≡ pos 0 → y ≡ pos 0
none_times k y n h = elim (ℤ_discrete y (pos 0)) [
  | yes e ↦ e
  | no m ↦ absurd (apart_both k y n m h)
]

both_none : (q x y : ℤ) → x ≡ pos 0 → y ≡ pos 0 → pos 0 ≤ℤ (q *ℤ q *ℤ x -ℤ y)
both_none q x y h k =
    let e : q *ℤ q *ℤ x ≡ pos 0 = rw h (ring (env (q ∷ [])) (times (times (var 0) (var 0)) (num (pos 0))) (num (pos 0)) refl) in
    omega (arith, ints, e, k)

gain_not_negative : (e : ℕ) (q : ℤ) (M P : Matrix) (a v : Vector) (i : ℕ) → q ≢ pos 0 → a 0 ≢ pos 0 → IsAnnihilated (suc e) M a → i < suc e
    → StrictlyFalls (suc e) (divided (suc e) q a 0) (companion (divided (suc e) q a)) P → pos 0 ≤ℤ gain e q M P v i
gain_not_negative e q M P a v i n m h b f =
    let d = suc e in
    let w = window e q M i v in
    let u = window e q M i (step d M v) in
    let k = scale_of e q a in
    elim (none_or_some d w) [
      | inl some ↦ weakly (gain e q M P v i) (gain_positive e q M P a v i n m h b f some)
      | inr none ↦
          (let y : k *ℤ k *ℤ form_at d P u ≡ pos 0 =
          sym (next_form e q M P a v i h b) ∙ form_none d P (step d (companion (divided d q a)) w) (λ j r. none_from d (companion (divided d q a) j) w none) in
          let kk = apart_both k k (apart_both (a 0) (power q e) m (power_apart q e n)) (apart_both (a 0) (power q e) m (power_apart q e n)) in
          both_none q (form_at d P w) (form_at d P u) (form_none d P w none) (none_times (k *ℤ k) (form_at d P u) kk y))
    ]

-- ---- the sum over all places
abbrev window_form : ℕ → ℤ → Matrix → Matrix → Matrix
window_form e q M P k l = sum_to (suc e) (λ i. congruence (suc e) P (window_matrix e q M i) k l)

window_value : (e : ℕ) (q : ℤ) (M P : Matrix) (v : Vector) → form_at (suc e) (window_form e q M P) v ≡ sum_to (suc e) (λ i. form_at (suc e) P (window e q M i v))
window_value e q M P v =
    let d = suc e in
    sym (form_sum d d (λ i. congruence d P (window_matrix e q M i)) v)
    ∙ sum_same d (λ i. form_at d (congruence d P (window_matrix e q M i)) v) (λ i. form_at d P (window e q M i v))
    (λ i b. sym (form_at_same d P (window e q M i v) (λ j. dot d (window_matrix e q M i j) v) (λ j p. window_row e q M i v j b) ∙ form_congruence d P (window_matrix e q M i) v))

gains : (e : ℕ) (q : ℤ) (M P : Matrix) (v : Vector)
    → q *ℤ q *ℤ form_at (suc e) (window_form e q M P) v -ℤ form_at (suc e) (window_form e q M P) (step (suc e) M v) ≡ sum_to (suc e) (gain e q M P v)
gains e q M P v =
    let d = suc e in
    rw (window_value e q M P v, window_value e q M P (step d M v))
    (ap (λ z. z -ℤ sum_to d (λ i. form_at d P (window e q M i (step d M v)))) (sym (sum_scale d (q *ℤ q) (λ i. form_at d P (window e q M i v))))
    ∙ sym (sum_less d (λ i. q *ℤ q *ℤ form_at d P (window e q M i v)) (λ i. form_at d P (window e q M i (step d M v)))))

-- the window of a place that isn't 0
window_some : (e : ℕ) (q : ℤ) (M : Matrix) (v : Vector) (i : ℕ) → q ≢ pos 0 → v i ≢ pos 0 → IsNotZero (suc e) (window e q M i v)
window_some e q M v i n m =
    let t : e - e ≡ 0 = omega arith in
    (e, omega arith, λ h. apart_both (power q e) (v i) (power_apart q e n) m (ap (λ k. power q e *ℤ trajectory (suc e) M v k i) (sym t) ∙ h))

window_not_negative : (e : ℕ) (q c : ℤ) (M C P : Matrix) (v : Vector) (i : ℕ) → StrictlyFalls (suc e) c C P → pos 0 ≤ℤ form_at (suc e) P (window e q M i v)
window_not_negative e q c M C P v i f = elim (none_or_some (suc e) (window e q M i v)) [
  | inl some ↦ weakly (form_at (suc e) P (window e q M i v)) (f.positive (window e q M i v) some)
  | inr none ↦ (let z = form_none (suc e) P (window e q M i v) none in omega (arith, ints, z))
]

pub systems_fall : SystemsFall
systems_fall e q M a n m h (P, f) =
    let d = suc e in
    let c0 = divided d q a 0 in
    let C = companion (divided d q a) in (
      window_form e q M P,
      record {
        positive = λ v some. rw (window_value e q M P v)
            (sum_positive d (λ i. form_at d P (window e q M i v)) some.0 some.1 (λ i b. window_not_negative e q c0 M C P v i f)
            (f.positive (window e q M some.0 v) (window_some e q M v some.0 n some.2)));
        falls = λ v some. less_by (form_at d (window_form e q M P) (step d M v)) (q *ℤ q *ℤ form_at d (window_form e q M P) v)
            (rw (gains e q M P v)
            (sum_positive d (gain e q M P v) some.0 some.1 (λ i b. gain_not_negative e q M P a v i n m h b f)
            (gain_positive e q M P a v some.0 n m h some.1 f (window_some e q M v some.0 n some.2))));
      },
    )
