-- How fast a polynomial's trajectories fall: a form for the polynomial with its roots divided by p / s.
use Rattle.std.proofs.Common.{◌≡◌, ◌≢◌, ℕ, zero, suc, ◌-◌, ◌<◌, [], ◌∷◌, refl, sym, ap, subst, ◌∙◌, arith}
use Rattle.std.proofs.Math.IntN.{ℤ, pos, ◌-ℤ◌, ◌*ℤ◌}
use lib.Signed.{◌<ℤ◌}
use Rattle.dsv_algebra.specs.Vectors.{Vector, Matrix, sum_to, form_at, IsNotZero}
use Rattle.dsv_algebra.specs.Falling.{step, power}
use Rattle.dsv_algebra.specs.Companion.{companion}
use Rattle.dsv_algebra.proofs.Normaliser.{ring, env, var, num, plus, times, minus}
use Rattle.dsv_algebra.proofs.Sums.{sum_same, sum_scale}
use Rattle.dsv_table.specs.Rates.{scaled, FallsAtRate}
use Rattle.dsv_table.proofs.Negative.{form_multiple}
use Rattle.dsv_table.proofs.Falls.{moved_place, new_value, apart_both, power_apart, less_by}
use Rattle.dsv_table.proofs.Systems.{power_sum, divided_out, form_at_same}

-- each place of a vector times its powers
abbrev pub weight : ℕ → ℤ → ℤ → ℕ → ℤ
weight e p s j = power p j *ℤ power s (e - j)

abbrev pub weighted : ℕ → ℤ → ℤ → Vector → Vector
weighted e p s v j = weight e p s j *ℤ v j

abbrev pub slowed : ℤ → Vector → Matrix
slowed s c i j = s *ℤ companion c i j

-- a step of the slower recursion
slow_step : (d : ℕ) (s : ℤ) (c v : Vector) (j : ℕ) → step d (slowed s c) v j ≡ s *ℤ step d (companion c) v j
slow_step d s c v j =
    sum_same d (λ i. s *ℤ companion c j i *ℤ v i) (λ i. s *ℤ (companion c j i *ℤ v i))
    (λ i b. ring (env (s ∷ companion c j i ∷ v i ∷ [])) (times (times (var 0) (var 1)) (var 2)) (times (var 0) (times (var 1) (var 2))) refl)
    ∙ sum_scale d s (λ i. companion c j i *ℤ v i)

term : (e : ℕ) (p s : ℤ) (c v : Vector) (j : ℕ) → j < suc e
    → scaled (suc e) p s c (suc j) *ℤ weighted e p s v j ≡ (power p e *ℤ power s (suc e)) *ℤ (c (suc j) *ℤ v j)
term e p s c v j b =
    let t : suc e - suc j ≡ e - j = omega arith in
    rw (t, ← power_sum p (e - j) j e (omega arith), ← power_sum s (suc j) (e - j) (suc e) (omega arith))
    (ring (env (c (suc j) ∷ power p (e - j) ∷ power s (suc j) ∷ power p j ∷ power s (e - j) ∷ v j ∷ []))
    (times (times (times (var 0) (var 1)) (var 2)) (times (times (var 3) (var 4)) (var 5)))
    (times (times (times (var 1) (var 3)) (times (var 2) (var 4))) (times (var 0) (var 5))) refl)

pub step_weighted : (e : ℕ) (p s : ℤ) (c v : Vector) (j : ℕ) → j < suc e
    → step (suc e) (companion (scaled (suc e) p s c)) (weighted e p s v) j ≡ power p e *ℤ weighted e p s (step (suc e) (slowed s c) v) j
step_weighted e p s c v zero b =
    let d = suc e in
    let y : e - 0 ≡ e = omega arith in
    let S = sum_to d (λ j. c (suc j) *ℤ v j) in
    new_value e (scaled d p s c) (weighted e p s v)
    ∙ ap (λ x. pos 0 -ℤ x) (sum_same d (λ j. scaled d p s c (suc j) *ℤ weighted e p s v j) (λ j. (power p e *ℤ power s d) *ℤ (c (suc j) *ℤ v j)) (λ j r. term e p s c v j r)
    ∙ sum_scale d (power p e *ℤ power s d) (λ j. c (suc j) *ℤ v j))
    ∙ sym (rw (slow_step d s c v 0, new_value e c v, y)
    (ring (env (power p e ∷ power s e ∷ s ∷ S ∷ []))
    (times (var 0) (times (times (num (pos 1)) (var 1)) (times (var 2) (plus (num (pos 0)) (minus (var 3))))))
    (plus (num (pos 0)) (minus (times (times (var 0) (times (var 2) (var 1))) (var 3)))) refl))
step_weighted e p s c v (suc j) b =
    let d = suc e in
    let z : suc e - 0 ≡ suc e = omega arith in
    let y : e - j ≡ suc (e - suc j) = omega arith in
    moved_place e (scaled d p s c) (weighted e p s v) j (omega arith)
    ∙ rw (z, y, slow_step d s c v (suc j), moved_place e c v j (omega arith))
    (ring (env (c 0 ∷ p ∷ power p e ∷ power p j ∷ s ∷ power s (e - suc j) ∷ v j ∷ []))
    (times (times (times (var 0) (times (var 1) (var 2))) (num (pos 1))) (times (times (var 3) (times (var 4) (var 5))) (var 6)))
    (times (var 2) (times (times (times (var 1) (var 3)) (var 5)) (times (var 4) (times (var 0) (var 6))))) refl)

abbrev pub weighted_form : ℕ → ℤ → ℤ → Matrix → Matrix
weighted_form e p s P i j = P i j *ℤ weight e p s i *ℤ weight e p s j

pub weighted_value : (e : ℕ) (p s : ℤ) (P : Matrix) (v : Vector) → form_at (suc e) (weighted_form e p s P) v ≡ form_at (suc e) P (weighted e p s v)
weighted_value e p s P v =
    let d = suc e in
    let w = weight e p s in
    sum_same d (λ i. sum_to d (λ j. P i j *ℤ w i *ℤ w j *ℤ v i *ℤ v j)) (λ i. sum_to d (λ j. P i j *ℤ (w i *ℤ v i) *ℤ (w j *ℤ v j)))
    (λ i a. sum_same d (λ j. P i j *ℤ w i *ℤ w j *ℤ v i *ℤ v j) (λ j. P i j *ℤ (w i *ℤ v i) *ℤ (w j *ℤ v j))
    (λ j b. ring (env (P i j ∷ w i ∷ w j ∷ v i ∷ v j ∷ [])) (times (times (times (times (var 0) (var 1)) (var 2)) (var 3)) (var 4)) (times (times (var 0) (times (var 1) (var 3))) (times (var 2) (var 4))) refl))

weighted_some : (e : ℕ) (p s : ℤ) (v : Vector) → p ≢ pos 0 → s ≢ pos 0 → IsNotZero (suc e) v → IsNotZero (suc e) (weighted e p s v)
weighted_some e p s v m n (i, b, h) =
    (i, b, apart_both (weight e p s i) (v i) (apart_both (power p i) (power s (e - i)) (power_apart p i m) (power_apart s (e - i) n)) h)

pub lead_of : (e : ℕ) (p s : ℤ) (c : Vector) → scaled (suc e) p s c 0 ≡ power p e *ℤ (p *ℤ c 0)
lead_of e p s c =
    let z : suc e - 0 ≡ suc e = omega arith in
    rw z (ring (env (c 0 ∷ p ∷ power p e ∷ [])) (times (times (var 0) (times (var 1) (var 2))) (num (pos 1))) (times (var 2) (times (var 1) (var 0))) refl)

pub falls_at_rate : FallsAtRate
falls_at_rate e p s c m n (P, f) =
    let d = suc e in
    let Q = weighted_form e p s P in
    let c0 = scaled d p s c 0 in
    let k = power p e in (
      Q,
      record {
        positive = λ v some. rw (weighted_value e p s P v) (f.positive (weighted e p s v) (weighted_some e p s v m n some));
        falls = λ v some.
            (let u = step d (slowed s c) v in
            let x = form_at d P (weighted e p s v) in
            let y = form_at d P (weighted e p s u) in
            let next : form_at d P (step d (companion (scaled d p s c)) (weighted e p s v)) ≡ k *ℤ k *ℤ y =
            form_at_same d P (step d (companion (scaled d p s c)) (weighted e p s v)) (λ j. k *ℤ weighted e p s u j) (step_weighted e p s c v)
            ∙ form_multiple d P k (weighted e p s u) in
            let less : (k *ℤ k *ℤ y) <ℤ (c0 *ℤ c0 *ℤ x) = subst (λ z. z <ℤ (c0 *ℤ c0 *ℤ x)) next (f.falls (weighted e p s v) (weighted_some e p s v m n some)) in
            let over = divided_out k (p *ℤ c 0) x y (power_apart p e m) (subst (λ z. (k *ℤ k *ℤ y) <ℤ (z *ℤ z *ℤ x)) (lead_of e p s c) less) in
            rw (weighted_value e p s P u, weighted_value e p s P v)
            (less_by y ((p *ℤ c 0) *ℤ (p *ℤ c 0) *ℤ x) over));
      },
    )
