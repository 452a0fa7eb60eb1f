-- A polynomial whose table has positive first numbers has a form that strictly falls: the sum of the Schur-Cohn form after
-- as many steps as the order. It loses the square of a row at each of these steps, and a vector at which all of these are 0 is 0.
use Rattle.std.proofs.Common.{◌≡◌, ◌≢◌, ℕ, zero, suc, ◌+◌, ◌-◌, ◌<◌, ◌≤◌, ◌⊎◌, [], ◌∷◌, ◌==◌, if◌then◌else◌, inl, inr, refl, sym, ap, ◌∙◌, arith}
use Rattle.std.proofs.Math.IntN.{ℤ, pos, ◌+ℤ◌, ◌-ℤ◌, ◌*ℤ◌, ℤ_discrete}
use Rattle.std.proofs.lemmas.Int.{ints}
use Rattle.std.proofs.lemmas.Bool.{cases_lt}
use Rattle.std.proofs.lemmas.Bool.Decides.{nat_tests}
use lib.Signed.{◌<ℤ◌, ◌≤ℤ◌}
use Rattle.dsv_algebra.specs.Vectors.{Vector, Matrix, sum_to, form_at, dot, congruence, IsNotZero}
use Rattle.dsv_algebra.specs.Falling.{step, power}
use Rattle.dsv_algebra.specs.Squares.{square}
use Rattle.dsv_algebra.specs.Companion.{companion, companion_fall_form}
use Rattle.dsv_algebra.proofs.Normaliser.{ring, env, var, num, plus, times, minus}
use Rattle.dsv_algebra.proofs.Signs.{mul_positive, mul_not_negative, square_positive}
use Rattle.dsv_algebra.proofs.Sums.{sum_same, sum_first, sum_none, sum_scale, sum_one, form_same, form_add, form_scale, form_square, form_nought}
use Rattle.dsv_algebra.proofs.Congruence.{form_congruence}
use Rattle.dsv_algebra.proofs.Falling.{loss-fall_form}
use Rattle.dsv_algebra.proofs.Definite.{square_not_negative, weakly}
use Rattle.dsv_algebra.proofs.KeptAway.{power_positive}
use Rattle.dsv_table.specs.SchurCohn.{schur_cohn, lost_row}
use Rattle.dsv_table.specs.Verdicts.{HasFallingForm}
use Rattle.dsv_table.proofs.Sides.{IsInside}
use Rattle.dsv_table.proofs.Identity.{loses, sum_turned, sum_less}
use Rattle.dsv_table.proofs.Positive.{form_positive, form_none}
use Rattle.dsv_table.proofs.Observed.{down, up, from, AreSilent, silent_is_none}

-- the sum of the form after each of n steps
abbrev pub steps_form : ℕ → ℕ → Vector → Matrix
steps_form zero d c i j = pos 0
steps_form (suc n) d c i j = power (c 0 *ℤ c 0) n *ℤ schur_cohn d c i j +ℤ congruence d (steps_form n d c) (companion c) i j

abbrev image : ℕ → Vector → Vector → Vector
image d c v = step d (companion c) v

steps_value : (n d : ℕ) (c v : Vector) → form_at d (steps_form (suc n) d c) v
    ≡ power (c 0 *ℤ c 0) n *ℤ form_at d (schur_cohn d c) v +ℤ form_at d (steps_form n d c) (image d c v)
steps_value n d c v =
    form_add d (λ i j. power (c 0 *ℤ c 0) n *ℤ schur_cohn d c i j) (congruence d (steps_form n d c) (companion c)) v
    ∙ rw (form_scale d (power (c 0 *ℤ c 0) n) (schur_cohn d c) v, form_congruence d (steps_form n d c) (companion c) v) refl

one_square : (a b : ℤ) → a *ℤ b ≡ pos 1 *ℤ a *ℤ b
one_square a b = ring (env (a ∷ b ∷ [])) (times (var 0) (var 1)) (times (times (num (pos 1)) (var 0)) (var 1)) refl

-- what the Schur-Cohn form loses in a step, at a vector
lost : (d : ℕ) (c v : Vector) → c 0 *ℤ c 0 *ℤ form_at d (schur_cohn d c) v -ℤ form_at d (schur_cohn d c) (image d c v)
    ≡ dot d (lost_row d c) v *ℤ dot d (lost_row d c) v
lost d c v =
    let g = lost_row d c in
    sym (loss-fall_form d (c 0) (companion c) (schur_cohn d c) v)
    ∙ form_same d (companion_fall_form d c (schur_cohn d c)) (square (pos 1) g) v (λ i j a b. loses d c i j a b ∙ one_square (g i) (g j))
    ∙ form_square d (pos 1) g v
    ∙ sym (one_square (dot d g v) (dot d g v))

abbrev loss : ℕ → ℕ → Vector → Vector → ℤ
loss n d c v = c 0 *ℤ c 0 *ℤ form_at d (steps_form n d c) v -ℤ form_at d (steps_form n d c) (image d c v)

regrouped : (z p h s k t : ℤ) → z *ℤ (p *ℤ h +ℤ s) -ℤ (p *ℤ k +ℤ t) ≡ p *ℤ (z *ℤ h -ℤ k) +ℤ (z *ℤ s -ℤ t)
regrouped z p h s k t =
    ring (env (z ∷ p ∷ h ∷ s ∷ k ∷ t ∷ []))
    (plus (times (var 0) (plus (times (var 1) (var 2)) (var 3))) (minus (plus (times (var 1) (var 4)) (var 5))))
    (plus (times (var 1) (plus (times (var 0) (var 2)) (minus (var 4)))) (plus (times (var 0) (var 3)) (minus (var 5)))) refl

loss_step : (n d : ℕ) (c v : Vector) → loss (suc n) d c v
    ≡ power (c 0 *ℤ c 0) n *ℤ (dot d (lost_row d c) v *ℤ dot d (lost_row d c) v) +ℤ loss n d c (image d c v)
loss_step n d c v =
    let H = schur_cohn d c in
    let S = steps_form n d c in
    let w = image d c v in
    rw (steps_value n d c v, steps_value n d c w) (
    regrouped (c 0 *ℤ c 0) (power (c 0 *ℤ c 0) n) (form_at d H v) (form_at d S w) (form_at d H w) (form_at d S (image d c w))
    ∙ ap (λ x. power (c 0 *ℤ c 0) n *ℤ x +ℤ loss n d c w) (lost d c v))

-- At each of n steps the row is 0.
abbrev pub IsSilent : ℕ → ℕ → Vector → Vector → Type 0
IsSilent zero d c v = Unit {0}
IsSilent (suc n) d c v = (dot d (lost_row d c) v ≡ pos 0) × IsSilent n d c (image d c v)

over : (p g l : ℤ) → pos 0 <ℤ p → pos 0 <ℤ l → pos 0 <ℤ (p *ℤ (g *ℤ g) +ℤ l)
over p g l h k =
    let a = mul_not_negative p (g *ℤ g) (omega (arith, ints)) (square_not_negative g) in
    omega (arith, ints, a, k)

over_by_row : (p g l : ℤ) → pos 0 <ℤ p → l ≡ pos 0 → g ≢ pos 0 → pos 0 <ℤ (p *ℤ (g *ℤ g) +ℤ l)
over_by_row p g l h k n =
    let a = mul_positive p (g *ℤ g) h (square_positive g n) in
    omega (arith, ints, a, k)

neither : (p g l : ℤ) → l ≡ pos 0 → g ≡ pos 0 → p *ℤ (g *ℤ g) +ℤ l ≡ pos 0
neither p g l h k = rw (h, k) (ring (env (p ∷ [])) (plus (times (var 0) (times (num (pos 0)) (num (pos 0)))) (num (pos 0))) (num (pos 0)) refl)

loss_sign : (n d : ℕ) (c v : Vector) → c 0 ≢ pos 0 → (pos 0 <ℤ loss n d c v) ⊎ ((loss n d c v ≡ pos 0) × IsSilent n d c v)
loss_sign zero d c v h =
    inr (rw (form_nought d v, form_nought d (image d c v)) (ring (env (c 0 ∷ [])) (plus (times (times (var 0) (var 0)) (num (pos 0))) (minus (num (pos 0)))) (num (pos 0)) refl), tt)
loss_sign (suc n) d c v h =
    let w = image d c v in
    let g = dot d (lost_row d c) v in
    let p = power (c 0 *ℤ c 0) n in
    let k = power_positive (c 0 *ℤ c 0) n (square_positive (c 0) h) in
    elim (loss_sign n d c w h) [
      | inl more ↦ inl (rw (loss_step n d c v) (over p g (loss n d c w) k more))
      | inr none ↦ elim (ℤ_discrete g (pos 0)) [
        | yes e ↦ inr (loss_step n d c v ∙ neither p g (loss n d c w) none.0 e, (e, none.1))
        | no m ↦ inl (rw (loss_step n d c v) (over_by_row p g (loss n d c w) k none.0 m))
      ]
    ]

-- ---- the values of the trajectory, each times the same power of c 0
abbrev pub values : ℕ → ℕ → Vector → Vector → Vector
values zero e c v i = v (e - i)
values (suc n) e c v zero = power (c 0) (suc n) *ℤ v e
values (suc n) e c v (suc i) = values n e c (image (suc e) c v) i

own_place : (i k : ℕ) (z y : ℤ) → i ≡ k → (if i == k then z else pos 0) *ℤ y ≡ z *ℤ y
own_place i k z y e = ap (λ t. t *ℤ y) (grind (arith, nat_tests))

other_place : (i k : ℕ) (z y : ℤ) → i ≢ k → (if i == k then z else pos 0) *ℤ y ≡ pos 0
other_place i k z y n =
    let e : (if i == k then z else pos 0) ≡ pos 0 = grind (arith, nat_tests) in
    rw e (ring (env (y ∷ [])) (times (num (pos 0)) (var 0)) (num (pos 0)) refl)

-- a step moves each value by a place
pub moved_place : (e : ℕ) (c v : Vector) (j : ℕ) → j < suc e → image (suc e) c v (suc j) ≡ c 0 *ℤ v j
moved_place e c v j b =
    sum_one (suc e) (λ i. (if j == i then c 0 else pos 0) *ℤ v i) j b (λ i p n. other_place j i (c 0) (v i) (λ q. n (sym q)))
    ∙ own_place j j (c 0) (v j) refl

-- the new value
pub new_value : (e : ℕ) (c v : Vector) → image (suc e) c v 0 ≡ pos 0 -ℤ sum_to (suc e) (λ j. c (suc j) *ℤ v j)
new_value e c v =
    sum_same (suc e) (λ j. (pos 0 -ℤ c (suc j)) *ℤ v j) (λ j. pos 0 -ℤ c (suc j) *ℤ v j)
    (λ j b. ring (env (c (suc j) ∷ v j ∷ [])) (times (plus (num (pos 0)) (minus (var 0))) (var 1)) (plus (num (pos 0)) (minus (times (var 0) (var 1)))) refl)
    ∙ sum_less (suc e) (λ j. pos 0) (λ j. c (suc j) *ℤ v j)
    ∙ rw (sum_none (suc e)) refl

pub window : (n e : ℕ) (c v : Vector) (j : ℕ) → j ≤ e → values n e c v (e - j) ≡ power (c 0) n *ℤ v j
window zero e c v j b =
    let t : e - (e - j) ≡ j = omega arith in
    rw t (ring (env (v j ∷ [])) (var 0) (times (num (pos 1)) (var 0)) refl)
window (suc n) e c v j b = elim (cases_lt j e) [
  | inl less ↦
      (let t : e - j ≡ suc (e - suc j) = omega arith in
      let w = image (suc e) c v in
      ap (λ i. values (suc n) e c v i) t
      ∙ window n e c w (suc j) (omega arith)
      ∙ rw (moved_place e c v j (omega arith))
      (ring (env (power (c 0) n ∷ c 0 ∷ v j ∷ [])) (times (var 0) (times (var 1) (var 2))) (times (times (var 1) (var 0)) (var 2)) refl))
  | inr more ↦
      (let t : e - j ≡ 0 = omega arith in
      let s : e ≡ j = omega arith in
      ap (λ i. values (suc n) e c v i) t ∙ ap (λ i. power (c 0) (suc n) *ℤ v i) s)
]

after_window : (n e : ℕ) (c v : Vector) → values (suc n) e c v (suc e) ≡ power (c 0) n *ℤ (pos 0 -ℤ sum_to (suc e) (λ j. c (suc j) *ℤ v j))
after_window n e c v =
    let t : e - 0 ≡ e = omega arith in
    ap (λ i. values n e c (image (suc e) c v) i) (sym t)
    ∙ window n e c (image (suc e) c v) 0 (omega arith)
    ∙ ap (λ x. power (c 0) n *ℤ x) (new_value e c v)

factor_out : (d : ℕ) (a W v : Vector) (p : ℤ) → ((j : ℕ) → j < d → W j ≡ p *ℤ v j) → sum_to d (λ j. a j *ℤ W j) ≡ p *ℤ sum_to d (λ j. a j *ℤ v j)
factor_out d a W v p h =
    sum_same d (λ j. a j *ℤ W j) (λ j. p *ℤ (a j *ℤ v j)) (λ j b. ap (λ t. a j *ℤ t) (h j b)
    ∙ ring (env (a j ∷ p ∷ v j ∷ [])) (times (var 0) (times (var 1) (var 2))) (times (var 1) (times (var 0) (var 2))) refl)
    ∙ sum_scale d p (λ j. a j *ℤ v j)

cancelled : (q p s : ℤ) → q *ℤ (p *ℤ (pos 0 -ℤ s)) +ℤ (q *ℤ p) *ℤ s ≡ pos 0
cancelled q p s =
    ring (env (q ∷ p ∷ s ∷ [])) (plus (times (var 0) (times (var 1) (plus (num (pos 0)) (minus (var 2))))) (times (times (var 0) (var 1)) (var 2))) (num (pos 0)) refl

-- the values obey the polynomial
down_first : (n e : ℕ) (c v : Vector) → down (suc e) c (values (suc n) e c v) ≡ pos 0
down_first n e c v =
    let d = suc e in
    let Y = values (suc n) e c v in
    let q = c 0 in
    let p = power q n in
    let s = sum_to d (λ j. c (suc j) *ℤ v j) in
    let t : suc e - 0 ≡ suc e = omega arith in
    let rest : sum_to d (λ j. c (suc j) *ℤ Y (d - suc j)) ≡ (q *ℤ p) *ℤ s =
    factor_out d (λ j. c (suc j)) (λ j. Y (d - suc j)) v (q *ℤ p) (λ j b. (let u : suc e - suc j ≡ e - j = omega arith in ap (λ i. Y i) u ∙ window (suc n) e c v j (omega arith))) in
    let first : Y (d - 0) ≡ p *ℤ (pos 0 -ℤ s) = ap (λ i. Y i) t ∙ after_window n e c v in
    sum_first d (λ j. c j *ℤ Y (d - j)) ∙ rw (rest, first) (cancelled q p s)

-- the row at a vector, in sums
row_at : (e : ℕ) (c v : Vector) → dot (suc e) (lost_row (suc e) c) v
    ≡ c (suc e) *ℤ sum_to (suc e) (λ j. c (suc j) *ℤ v j) -ℤ c 0 *ℤ sum_to (suc e) (λ j. c j *ℤ v (e - j))
row_at e c v =
    let d = suc e in
    sum_same d (λ j. (c d *ℤ c (suc j) -ℤ c 0 *ℤ c (d - suc j)) *ℤ v j) (λ j. c d *ℤ (c (suc j) *ℤ v j) -ℤ c 0 *ℤ (c (e - j) *ℤ v (e - (e - j))))
    (λ j b. (let t : suc e - suc j ≡ e - j = omega arith in let u : e - (e - j) ≡ j = omega arith in
    rw (t, u) (ring (env (c d ∷ c (suc j) ∷ c 0 ∷ c (e - j) ∷ v j ∷ []))
    (times (plus (times (var 0) (var 1)) (minus (times (var 2) (var 3)))) (var 4))
    (plus (times (var 0) (times (var 1) (var 4))) (minus (times (var 2) (times (var 3) (var 4))))) refl)))
    ∙ sum_less d (λ j. c d *ℤ (c (suc j) *ℤ v j)) (λ j. c 0 *ℤ (c (e - j) *ℤ v (e - (e - j))))
    ∙ rw (sum_scale d (c d) (λ j. c (suc j) *ℤ v j), sum_scale d (c 0) (λ j. c (e - j) *ℤ v (e - (e - j))), sum_turned e (λ j. c j *ℤ v (e - j))) refl

mirror : (q p s m l : ℤ) → (q *ℤ p) *ℤ m +ℤ l *ℤ (p *ℤ (pos 0 -ℤ s)) ≡ (pos 0 -ℤ p) *ℤ (l *ℤ s -ℤ q *ℤ m)
mirror q p s m l =
    ring (env (q ∷ p ∷ s ∷ m ∷ l ∷ []))
    (plus (times (times (var 0) (var 1)) (var 3)) (times (var 4) (times (var 1) (plus (num (pos 0)) (minus (var 2))))))
    (times (plus (num (pos 0)) (minus (var 1))) (plus (times (var 4) (var 2)) (minus (times (var 0) (var 3))))) refl

none_of : (a b : ℤ) → b ≡ pos 0 → a *ℤ b ≡ pos 0
none_of a b h = rw h (ring (env (a ∷ [])) (times (var 0) (num (pos 0))) (num (pos 0)) refl)

-- the values obey the reverse where the row is 0
up_first : (n e : ℕ) (c v : Vector) → dot (suc e) (lost_row (suc e) c) v ≡ pos 0 → up (suc e) c (values (suc n) e c v) ≡ pos 0
up_first n e c v h =
    let d = suc e in
    let Y = values (suc n) e c v in
    let q = c 0 in
    let p = power q n in
    let s = sum_to d (λ j. c (suc j) *ℤ v j) in
    let m = sum_to d (λ j. c j *ℤ v (e - j)) in
    let inner : sum_to d (λ j. c j *ℤ Y j) ≡ (q *ℤ p) *ℤ m =
    factor_out d c Y (λ j. v (e - j)) (q *ℤ p) (λ j b. (let u : e - (e - j) ≡ j = omega arith in ap (λ i. Y i) (sym u) ∙ window (suc n) e c v (e - j) (omega arith))) in
    rw (inner, after_window n e c v) (mirror q p s m (c d) ∙ none_of (pos 0 -ℤ p) (c d *ℤ s -ℤ q *ℤ m) (sym (row_at e c v) ∙ h))

same_start : (d : ℕ) (c Y : Vector) → down d c (from 0 Y) ≡ down d c Y
same_start d c Y = sum_same (suc d) (λ j. c j *ℤ Y (0 + (d - j))) (λ j. c j *ℤ Y (d - j)) (λ j b. let t : 0 + (d - j) ≡ d - j = omega arith in rw t refl)

same_start_up : (d : ℕ) (c Y : Vector) → up d c (from 0 Y) ≡ up d c Y
same_start_up d c Y = sum_same (suc d) (λ j. c j *ℤ Y (0 + j)) (λ j. c j *ℤ Y j) (λ j b. let t : 0 + j ≡ j = omega arith in rw t refl)

down_later : (n e : ℕ) (c v : Vector) (k : ℕ) → down (suc e) c (from (suc k) (values (suc n) e c v)) ≡ down (suc e) c (from k (values n e c (image (suc e) c v)))
down_later n e c v k =
    sum_same (suc (suc e)) (λ j. c j *ℤ values (suc n) e c v (suc k + (suc e - j))) (λ j. c j *ℤ values n e c (image (suc e) c v) (k + (suc e - j)))
    (λ j b. let t : suc k + (suc e - j) ≡ suc (k + (suc e - j)) = omega arith in rw t refl)

up_later : (n e : ℕ) (c v : Vector) (k : ℕ) → up (suc e) c (from (suc k) (values (suc n) e c v)) ≡ up (suc e) c (from k (values n e c (image (suc e) c v)))
up_later n e c v k =
    sum_same (suc (suc e)) (λ j. c j *ℤ values (suc n) e c v (suc k + j)) (λ j. c j *ℤ values n e c (image (suc e) c v) (k + j))
    (λ j b. let t : suc k + j ≡ suc (k + j) = omega arith in rw t refl)

obeyed_at : (n e : ℕ) (c v : Vector) (k : ℕ) → k < n → down (suc e) c (from k (values n e c v)) ≡ pos 0
obeyed_at zero e c v k b = absurd (omega arith)
obeyed_at (suc n) e c v zero b = same_start (suc e) c (values (suc n) e c v) ∙ down_first n e c v
obeyed_at (suc n) e c v (suc k) b = down_later n e c v k ∙ obeyed_at n e c (image (suc e) c v) k (omega arith)

mirrored_at : (n e : ℕ) (c v : Vector) → IsSilent n (suc e) c v → (k : ℕ) → k < n → up (suc e) c (from k (values n e c v)) ≡ pos 0
mirrored_at zero e c v h k b = absurd (omega arith)
mirrored_at (suc n) e c v (g, h) zero b = same_start_up (suc e) c (values (suc n) e c v) ∙ up_first n e c v g
mirrored_at (suc n) e c v (g, h) (suc k) b = up_later n e c v k ∙ mirrored_at n e c (image (suc e) c v) h k (omega arith)

-- ---- the theorem
pub apart_both : (a b : ℤ) → a ≢ pos 0 → b ≢ pos 0 → (a *ℤ b) ≢ pos 0
apart_both a b p q e =
    let s = mul_positive (a *ℤ a) (b *ℤ b) (square_positive a p) (square_positive b q) in
    let same : (a *ℤ a) *ℤ (b *ℤ b) ≡ (a *ℤ b) *ℤ (a *ℤ b) =
    ring (env (a ∷ b ∷ [])) (times (times (var 0) (var 0)) (times (var 1) (var 1))) (times (times (var 0) (var 1)) (times (var 0) (var 1))) refl in
    let z : (a *ℤ b) *ℤ (a *ℤ b) ≡ pos 0 = rw e refl in
    absurd (omega (arith, ints, s, same, z))

pub power_apart : (z : ℤ) (n : ℕ) → z ≢ pos 0 → power z n ≢ pos 0
power_apart z zero h e = absurd (omega (arith, ints))
power_apart z (suc n) h e = apart_both z (power z n) h (power_apart z n h) e

-- a vector at which all rows are 0 is 0
silent_none : (e : ℕ) (c v : Vector) → c 0 ≢ pos 0 → IsInside (suc e) c → IsSilent (suc e) (suc e) c v → (i : ℕ) → i < suc e → v i ≢ pos 0 → ⊥
silent_none e c v h inside silent i b n =
    let d = suc e in
    let Y = values d e c v in
    let s : AreSilent d c Y = record { obeyed = obeyed_at d e c v; mirrored = mirrored_at d e c v silent } in
    let y : Y (e - i) ≡ pos 0 = silent_is_none d c Y inside s (e - i) (omega arith) in
    apart_both (power (c 0) d) (v i) (power_apart (c 0) d h) n (sym (window d e c v i (omega arith)) ∙ y)

loss_positive : (d : ℕ) (c v : Vector) → c 0 ≢ pos 0 → IsInside d c → IsNotZero d v → pos 0 <ℤ loss d d c v
loss_positive zero c v h inside (i, b, n) = absurd (omega arith)
loss_positive (suc e) c v h inside (i, b, n) = elim (loss_sign (suc e) (suc e) c v h) [
  | inl more ↦ more
  | inr none ↦ absurd (silent_none e c v h inside none.1 i b n)
]

pub none_or_some : (d : ℕ) (v : Vector) → IsNotZero d v ⊎ ((j : ℕ) → j < d → v j ≡ pos 0)
none_or_some zero v = inr (λ j b. absurd (omega arith))
none_or_some (suc d) v = elim (ℤ_discrete (v d) (pos 0)) [
  | yes e ↦ elim (none_or_some d v) [
    | inl some ↦ inl (some.0, omega (arith, some.1), some.2)
    | inr none ↦ inr (λ j b. elim (cases_lt j d) [ inl less ↦ none j less | inr more ↦ (let t : j ≡ d = omega arith in rw t e) ])
  ]
  | no n ↦ inl (d, omega arith, n)
]

equals_none : (a : ℤ) → a ≡ pos 0 → pos 0 ≤ℤ a
equals_none a h = omega (arith, ints, h)

form_not_negative : (d : ℕ) (c v : Vector) → IsInside d c → pos 0 ≤ℤ form_at d (schur_cohn d c) v
form_not_negative d c v inside = elim (none_or_some d v) [
  | inl some ↦ weakly (form_at d (schur_cohn d c) v) (form_positive d c v inside some)
  | inr none ↦ equals_none (form_at d (schur_cohn d c) v) (form_none d (schur_cohn d c) v none)
]

weak_sum : (p h s : ℤ) → pos 0 <ℤ p → pos 0 ≤ℤ h → pos 0 ≤ℤ s → pos 0 ≤ℤ (p *ℤ h +ℤ s)
weak_sum p h s a b k =
    let m = mul_not_negative p h (weakly p a) b in
    omega (arith, ints, m, k)

strict_sum : (p h s : ℤ) → pos 0 <ℤ p → pos 0 <ℤ h → pos 0 ≤ℤ s → pos 0 <ℤ (p *ℤ h +ℤ s)
strict_sum p h s a b k =
    let m = mul_positive p h a b in
    omega (arith, ints, m, k)

steps_not_negative : (n d : ℕ) (c v : Vector) → c 0 ≢ pos 0 → IsInside d c → pos 0 ≤ℤ form_at d (steps_form n d c) v
steps_not_negative zero d c v h inside = equals_none (form_at d (steps_form zero d c) v) (form_nought d v)
steps_not_negative (suc n) d c v h inside =
    rw (steps_value n d c v)
    (weak_sum (power (c 0 *ℤ c 0) n) (form_at d (schur_cohn d c) v) (form_at d (steps_form n d c) (image d c v))
    (power_positive (c 0 *ℤ c 0) n (square_positive (c 0) h)) (form_not_negative d c v inside) (steps_not_negative n d c (image d c v) h inside))

steps_positive : (d : ℕ) (c v : Vector) → c 0 ≢ pos 0 → IsInside d c → IsNotZero d v → pos 0 <ℤ form_at d (steps_form d d c) v
steps_positive zero c v h inside (i, b, n) = absurd (omega arith)
steps_positive (suc e) c v h inside some =
    let d = suc e in
    rw (steps_value e d c v)
    (strict_sum (power (c 0 *ℤ c 0) e) (form_at d (schur_cohn d c) v) (form_at d (steps_form e d c) (image d c v))
    (power_positive (c 0 *ℤ c 0) e (square_positive (c 0) h)) (form_positive d c v inside some) (steps_not_negative e d c (image d c v) h inside))

pub less_by : (a b : ℤ) → pos 0 <ℤ (b -ℤ a) → a <ℤ b
less_by a b h = omega (arith, ints, h)

pub inside_falls : (d : ℕ) (c : Vector) → c 0 ≢ pos 0 → IsInside d c → HasFallingForm d c
inside_falls d c h inside = (
  steps_form d d c,
  record {
    positive = λ v n. steps_positive d c v h inside n;
    falls = λ v n. less_by (form_at d (steps_form d d c) (image d c v)) (c 0 *ℤ c 0 *ℤ form_at d (steps_form d d c) v) (loss_positive d c v h inside n);
  },
)
