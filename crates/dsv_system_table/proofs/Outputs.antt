-- A system is kept away from 0 somewhere where the polynomial of one of its outputs is.
--
-- The window of a trajectory: its next e outputs and its own, each times a power of q, so that the polynomial's companion
-- matrix takes the window to a multiple of the next one.
use Rattle.std.proofs.Common.{◌≡◌, ◌≢◌, ℕ, zero, suc, ◌-◌, ◌<◌, ◌==◌, if◌then◌else◌, [], ◌∷◌, refl, sym, ap, subst, ◌∙◌, arith}
use Rattle.std.proofs.Math.IntN.{ℤ, pos, ◌+ℤ◌, ◌-ℤ◌, ◌*ℤ◌}
use lib.Signed.{◌≤ℤ◌}
use Rattle.dsv_algebra.specs.Vectors.{Vector, Matrix, sum_to, form_at, dot}
use Rattle.dsv_algebra.specs.Falling.{step, power, trajectory, IsKeptAway}
use Rattle.dsv_algebra.specs.Companion.{companion}
use Rattle.dsv_algebra.proofs.Normaliser.{ring, env, var, num, times}
use Rattle.dsv_algebra.proofs.Signs.{mul_negative, square_positive}
use Rattle.dsv_algebra.proofs.Sums.{sum_same, sum_first, sum_scale, sum_one}
use Rattle.dsv_table.specs.Systems.{divided, IsAnnihilated}
use Rattle.dsv_table.proofs.Negative.{form_multiple}
use Rattle.dsv_table.proofs.Falls.{moved_place, new_value, apart_both, power_apart}
use Rattle.dsv_table.proofs.Systems.{power_sum, scale_of, form_at_same, lead_of, from_sum, trajectory_later, window_term}
use Rattle.dsv_table.proofs.SystemsAway.{divided_out_weakly, kept_by, other_place, own_place}
use Rattle.dsv_system_table.specs.Outputs.{unit, row_power, IsObeyed, IsRightInverse, OutputsKeepAway}
use Rattle.dsv_system_table.proofs.Images.{image, row_image, none_times, image_form, form_image}

-- ---- outputs
-- the output of a vector k steps later
abbrev output : ℕ → Matrix → Vector → Vector → ℕ → ℤ
output d M w v k = dot d (row_power d M w k) v

output_later : (d : ℕ) (M : Matrix) (w v : Vector) (k : ℕ) → output d M w v (suc k) ≡ output d M w (step d M v) k
output_later d M w v k = sym (row_image d d (row_power d M w k) v M)

output_obeys : (d m : ℕ) (M : Matrix) (w a v : Vector) → IsObeyed d m M w a → sum_to (suc m) (λ k. a k *ℤ output d M w v (m - k)) ≡ pos 0
output_obeys d m M w a v h =
    row_image (suc m) d a v (λ k l. row_power d M w (m - k) l)
    ∙ none_times d (λ l. sum_to (suc m) (λ k. a k *ℤ row_power d M w (m - k) l)) v h

-- ---- windows
-- the matrix that takes a start to its window
abbrev output_window : ℕ → ℕ → ℤ → Matrix → Vector → Matrix
output_window d e q M w j l = power q j *ℤ row_power d M w (e - j) l

abbrev window : ℕ → ℕ → ℤ → Matrix → Vector → Vector → Vector
window d e q M w v j = power q j *ℤ output d M w v (e - j)

window_row : (d e : ℕ) (q : ℤ) (M : Matrix) (w v : Vector) (j : ℕ) → window d e q M w v j ≡ dot d (output_window d e q M w j) v
window_row d e q M w v j =
    let r = row_power d M w (e - j) in
    sym (sum_scale d (power q j) (λ l. r l *ℤ v l))
    ∙ sum_same d (λ l. power q j *ℤ (r l *ℤ v l)) (λ l. power q j *ℤ r l *ℤ v l)
    (λ l p. ring (env (power q j ∷ r l ∷ v l ∷ [])) (times (var 0) (times (var 1) (var 2))) (times (times (var 0) (var 1)) (var 2)) refl)

-- ---- the companion matrix takes a window to a multiple of the next one

step_window : (d e : ℕ) (q : ℤ) (M : Matrix) (w a v : Vector) → IsObeyed d (suc e) M w a → (j : ℕ) → j < suc e
    → step (suc e) (companion (divided (suc e) q a)) (window d e q M w v) j ≡ scale_of e q a *ℤ window d e q M w (step d M v) j
step_window d e q M w a v h zero p =
    let c = divided (suc e) q a in
    let T : Vector = output d M w v in
    let z : suc e - 0 ≡ suc e = omega arith in
    let y : e - 0 ≡ e = omega arith in
    let s = sum_to (suc e) (λ j. a (suc j) *ℤ T (suc e - suc j)) in
    let whole : a 0 *ℤ T (suc e) +ℤ s ≡ pos 0 =
    ap (λ k. a 0 *ℤ T k +ℤ s) (sym z) ∙ sym (sum_first (suc e) (λ k. a k *ℤ T (suc e - k))) ∙ output_obeys d (suc e) M w a v h in
    new_value e c (window d e q M w v)
    ∙ ap (λ x. pos 0 -ℤ x) (sum_same (suc e) (λ j. c (suc j) *ℤ window d e q M w v j) (λ j. power q e *ℤ (a (suc j) *ℤ T (suc e - suc j))) (λ j r. window_term e q a T j r)
    ∙ sum_scale (suc e) (power q e) (λ j. a (suc j) *ℤ T (suc e - suc j)))
    ∙ from_sum (power q e) (a 0) s (T (suc e)) whole
    ∙ ap (λ x. (a 0 *ℤ power q e) *ℤ (pos 1 *ℤ x)) (output_later d M w v e ∙ ap (λ k. output d M w (step d M v) k) (sym y))
step_window d e q M w a v h (suc j) p =
    let c = divided (suc e) q a in
    let z : suc e - 0 ≡ suc e = omega arith in
    let y : e - j ≡ suc (e - suc j) = omega arith in
    let next = output d M w (step d M v) (e - suc j) in
    moved_place e c (window d e q M w v) j (omega arith)
    ∙ ap (λ x. c 0 *ℤ (power q j *ℤ x)) (ap (λ k. output d M w v k) y ∙ output_later d M w v (e - suc j))
    ∙ ap (λ k. (a 0 *ℤ power q k) *ℤ (power q j *ℤ next)) z
    ∙ ring (env (a 0 ∷ q ∷ power q e ∷ power q j ∷ next ∷ []))
    (times (times (var 0) (times (var 1) (var 2))) (times (var 3) (var 4)))
    (times (times (var 0) (var 2)) (times (times (var 1) (var 3)) (var 4))) refl

-- ---- the form at a window
window_value : (d e : ℕ) (q : ℤ) (M P : Matrix) (w v : Vector)
    → form_at d (image_form (suc e) P (output_window d e q M w)) v ≡ form_at (suc e) P (window d e q M w v)
window_value d e q M P w v =
    sym (form_at_same (suc e) P (window d e q M w v) (λ j. dot d (output_window d e q M w j) v) (λ j p. window_row d e q M w v j)
    ∙ form_image d (suc e) P (output_window d e q M w) v)

next_form : (d e : ℕ) (q : ℤ) (M P : Matrix) (w a v : Vector) → IsObeyed d (suc e) M w a
    → form_at (suc e) P (step (suc e) (companion (divided (suc e) q a)) (window d e q M w v))
    ≡ scale_of e q a *ℤ scale_of e q a *ℤ form_at (suc e) P (window d e q M w (step d M v))
next_form d e q M P w a v h =
    form_at_same (suc e) P (step (suc e) (companion (divided (suc e) q a)) (window d e q M w v)) (λ j. scale_of e q a *ℤ window d e q M w (step d M v) j)
    (step_window d e q M w a v h)
    ∙ form_multiple (suc e) P (scale_of e q a) (window d e q M w (step d M v))

never_rises : (d e : ℕ) (q : ℤ) (M P : Matrix) (w a start v : Vector) → q ≢ pos 0 → a 0 ≢ pos 0 → IsObeyed d (suc e) M w a
    → IsKeptAway (suc e) (divided (suc e) q a 0) (companion (divided (suc e) q a)) P start
    → form_at (suc e) P (window d e q M w (step d M v)) ≤ℤ (q *ℤ q *ℤ form_at (suc e) P (window d e q M w v))
never_rises d e q M P w a start v n m h f =
    let k = scale_of e q a in
    let x = form_at (suc e) P (window d e q M w v) in
    let y = form_at (suc e) P (window d e q M w (step d M v)) in
    let c0 = divided (suc e) q a 0 in
    let less : (k *ℤ k *ℤ y) ≤ℤ (c0 *ℤ c0 *ℤ x) = subst (λ z. z ≤ℤ (c0 *ℤ c0 *ℤ x)) (next_form d e q M P w a v h) (f.holds (window d e q M w v)) in
    divided_out_weakly k q x y (apart_both (a 0) (power q e) m (power_apart q e n))
    (subst (λ z. (k *ℤ k *ℤ y) ≤ℤ (z *ℤ z *ℤ x)) (lead_of e q a) less)

-- ---- the start

-- a row of t times the unit matrix, times a vector
chosen : (m : ℕ) (t : ℤ) (s : Vector) (j : ℕ) → j < m → sum_to m (λ k. (if j == k then t else pos 0) *ℤ s k) ≡ t *ℤ s j
chosen m t s j p =
    sum_one m (λ k. (if j == k then t else pos 0) *ℤ s k) j p (λ k r n. other_place j k t (s k) (λ x. n (sym x)))
    ∙ own_place j t (s j)

-- the outputs that the start is to have: those of the window s, each times another power
abbrev outputs_of : ℕ → ℤ → Vector → Vector
outputs_of e q s k = power q k *ℤ s (e - k)

abbrev start_of : ℕ → ℤ → Matrix → Vector → Vector
start_of e q B s = image (suc e) B (outputs_of e q s)

start_outputs : (d e : ℕ) (q : ℤ) (M B : Matrix) (w s : Vector) (t : ℤ) → IsRightInverse d (suc e) (row_power d M w) B t
    → (k : ℕ) → k < suc e → output d M w (start_of e q B s) k ≡ t *ℤ outputs_of e q s k
start_outputs d e q M B w s t h k p =
    let R = row_power d M w in
    let u = outputs_of e q s in
    row_image d (suc e) (R k) u B
    ∙ sum_same (suc e) (λ i. sum_to d (λ l. R k l *ℤ B l i) *ℤ u i) (λ i. (if k == i then t else pos 0) *ℤ u i) (λ i r. ap (λ z. z *ℤ u i) (h k i p r))
    ∙ chosen (suc e) t u k p

window_start : (d e : ℕ) (q : ℤ) (M B : Matrix) (w s : Vector) (t : ℤ) → IsRightInverse d (suc e) (row_power d M w) B t
    → (j : ℕ) → j < suc e → window d e q M w (start_of e q B s) j ≡ (t *ℤ power q e) *ℤ s j
window_start d e q M B w s t h j p =
    let y : e - (e - j) ≡ j = omega arith in
    ap (λ z. power q j *ℤ z) (start_outputs d e q M B w s t h (e - j) (omega arith))
    ∙ ap (λ i. power q j *ℤ (t *ℤ (power q (e - j) *ℤ s i))) y
    ∙ rw (← power_sum q (e - j) j e (omega arith))
    (ring (env (power q j ∷ t ∷ power q (e - j) ∷ s j ∷ [])) (times (var 0) (times (var 1) (times (var 2) (var 3)))) (times (times (var 1) (times (var 2) (var 0))) (var 3)) refl)

-- ---- a form that is negative at a start and rises in no step

pub outputs_keep_away : OutputsKeepAway
outputs_keep_away d e q M w a B t n m h apart inverse (P, s, f) =
    let Q = image_form (suc e) P (output_window d e q M w) in
    let v = start_of e q B s in
    let k = t *ℤ power q e in
    let same : form_at d Q v ≡ k *ℤ k *ℤ form_at (suc e) P s =
    window_value d e q M P w v
    ∙ form_at_same (suc e) P (window d e q M w v) (λ j. k *ℤ s j) (window_start d e q M B w s t inverse)
    ∙ form_multiple (suc e) P k s in
    let some = apart_both t (power q e) apart (power_apart q e n) in (
      Q,
      v,
      kept_by d q M Q v n (rw same (mul_negative (k *ℤ k) (form_at (suc e) P s) (square_positive k some) f.negative))
          (λ u. rw (window_value d e q M P w u, window_value d e q M P w (step d M u)) (never_rises d e q M P w a s u n m h f)),
    )

-- ---- the outputs that are the places themselves

place_output : (d : ℕ) (M : Matrix) (i : ℕ) (v : Vector) (k : ℕ) → i < d → output d M (unit i) v k ≡ trajectory d M v k i
place_output d M i v zero b = chosen d (pos 1) v i b ∙ ring (env (v i ∷ [])) (times (num (pos 1)) (var 0)) (var 0) refl
place_output d M i v (suc k) b =
    output_later d M (unit i) v k ∙ place_output d M i (step d M v) k b ∙ trajectory_later d M v k i

-- A polynomial annihilates the matrix if each place obeys it.
pub annihilated : (d : ℕ) (M : Matrix) (a : Vector) → ((i : ℕ) → i < d → IsObeyed d d M (unit i) a) → IsAnnihilated d M a
annihilated d M a h v i b =
    sum_same (suc d) (λ k. a k *ℤ trajectory d M v (d - k) i) (λ k. a k *ℤ output d M (unit i) v (d - k))
    (λ k p. ap (λ z. a k *ℤ z) (sym (place_output d M i v (d - k) b)))
    ∙ output_obeys d d M (unit i) a v (h i b)
