-- The other side of a rate: a polynomial that is kept away from 0 with its roots divided by p / s.
use Rattle.std.proofs.Common.{◌≡◌, ℕ, zero, suc, ◌-◌, ◌<◌, [], ◌∷◌, refl, sym, ap, subst, ◌∙◌, arith}
use Rattle.std.proofs.Math.IntN.{ℤ, pos, ◌-ℤ◌, ◌*ℤ◌}
use Rattle.std.proofs.lemmas.Int.{ints}
use lib.Signed.{◌<ℤ◌, ◌≤ℤ◌}
use Rattle.dsv_algebra.specs.Vectors.{Vector, Matrix, form_at}
use Rattle.dsv_algebra.specs.Falling.{step, power, trajectory}
use Rattle.dsv_algebra.specs.Companion.{companion}
use Rattle.dsv_algebra.proofs.Normaliser.{ring, env, var, num, plus, times, minus}
use Rattle.dsv_algebra.proofs.Signs.{mul_negative, square_positive, positive_factor}
use Rattle.dsv_algebra.proofs.Sums.{sum_same, sum_scale}
use Rattle.dsv_table.specs.Rates.{scaled, IsKeptAwayAtRate}
use Rattle.dsv_table.proofs.Negative.{form_multiple}
use Rattle.dsv_table.proofs.Falls.{apart_both, power_apart}
use Rattle.dsv_table.proofs.Systems.{power_sum, form_at_same}
use Rattle.dsv_table.proofs.SystemsAway.{along, divided_out_weakly}
use Rattle.dsv_table.proofs.Rates.{weighted, slowed, weighted_form, weighted_value, step_weighted, lead_of}

-- ---- the start: with weights on the other side the vector is a multiple of the one before
abbrev lifted : ℕ → ℤ → ℤ → Vector → Vector
lifted e p s u j = (power p (e - j) *ℤ power s j) *ℤ u j

weighted_lifted : (e : ℕ) (p s : ℤ) (u : Vector) (j : ℕ) → j < suc e → weighted e p s (lifted e p s u) j ≡ (power p e *ℤ power s e) *ℤ u j
weighted_lifted e p s u j b =
    rw (← power_sum p (e - j) j e (omega arith), ← power_sum s (e - j) j e (omega arith))
    (ring (env (power p j ∷ power s (e - j) ∷ power p (e - j) ∷ power s j ∷ u j ∷ []))
    (times (times (var 0) (var 1)) (times (times (var 2) (var 3)) (var 4)))
    (times (times (times (var 2) (var 0)) (times (var 1) (var 3))) (var 4)) refl)

-- ---- trajectories
step_same : (d : ℕ) (M : Matrix) (u w : Vector) (j : ℕ) → ((i : ℕ) → i < d → u i ≡ w i) → step d M u j ≡ step d M w j
step_same d M u w j h = sum_same d (λ i. M j i *ℤ u i) (λ i. M j i *ℤ w i) (λ i b. ap (λ z. M j i *ℤ z) (h i b))

step_multiple : (d : ℕ) (M : Matrix) (m : ℤ) (w : Vector) (j : ℕ) → step d M (λ i. m *ℤ w i) j ≡ m *ℤ step d M w j
step_multiple d M m w j =
    sum_same d (λ i. M j i *ℤ (m *ℤ w i)) (λ i. m *ℤ (M j i *ℤ w i))
    (λ i b. ring (env (m ∷ M j i ∷ w i ∷ [])) (times (var 1) (times (var 0) (var 2))) (times (var 0) (times (var 1) (var 2))) refl)
    ∙ sum_scale d m (λ i. M j i *ℤ w i)

-- Both recursions run beside one another, each times a power.
beside : (e : ℕ) (p s : ℤ) (c u : Vector) (n j : ℕ) → j < suc e
    → power (power p e) n *ℤ weighted e p s (trajectory (suc e) (slowed s c) (lifted e p s u) n) j
    ≡ (power p e *ℤ power s e) *ℤ trajectory (suc e) (companion (scaled (suc e) p s c)) u n j
beside e p s c u zero j b =
    rw (weighted_lifted e p s u j b)
    (ring (env ((power p e *ℤ power s e) ∷ u j ∷ [])) (times (num (pos 1)) (times (var 0) (var 1))) (times (var 0) (var 1)) refl)
beside e p s c u (suc n) j b =
    let d = suc e in
    let k = power p e in
    let K = power p e *ℤ power s e in
    let C = companion (scaled d p s c) in
    let x = trajectory d (slowed s c) (lifted e p s u) n in
    let y = trajectory d C u n in
    let next = weighted e p s (step d (slowed s c) x) j in
    ring (env (k ∷ power k n ∷ next ∷ [])) (times (times (var 0) (var 1)) (var 2)) (times (var 1) (times (var 0) (var 2))) refl
    ∙ ap (λ z. power k n *ℤ z) (sym (step_weighted e p s c x j b))
    ∙ sym (step_multiple d C (power k n) (weighted e p s x) j)
    ∙ step_same d C (λ i. power k n *ℤ weighted e p s x i) (λ i. K *ℤ y i) j (λ i a. beside e p s c u n i a)
    ∙ step_multiple d C K y j

negative_of : (m t : ℤ) → pos 0 <ℤ m → (m *ℤ t) <ℤ pos 0 → t <ℤ pos 0
negative_of m t p h =
    let e : m *ℤ (pos 0 -ℤ t) ≡ pos 0 -ℤ m *ℤ t = ring (env (m ∷ t ∷ [])) (times (var 0) (plus (num (pos 0)) (minus (var 1)))) (plus (num (pos 0)) (minus (times (var 0) (var 1)))) refl in
    let g = positive_factor m (pos 0 -ℤ t) p (rw e (omega (arith, ints, h))) in
    omega (arith, ints, g)

value_beside : (e : ℕ) (p s : ℤ) (P : Matrix) (x y : Vector) (k K : ℤ) → ((j : ℕ) → j < suc e → k *ℤ weighted e p s x j ≡ K *ℤ y j)
    → (k *ℤ k) *ℤ form_at (suc e) (weighted_form e p s P) x ≡ (K *ℤ K) *ℤ form_at (suc e) P y
value_beside e p s P x y k K h =
    rw (weighted_value e p s P x)
    (sym (form_multiple (suc e) P k (weighted e p s x))
    ∙ form_at_same (suc e) P (λ j. k *ℤ weighted e p s x j) (λ j. K *ℤ y j) h
    ∙ form_multiple (suc e) P K y)

pub kept_away_at_rate : IsKeptAwayAtRate
kept_away_at_rate e p s c m n (P, u, f) =
    let d = suc e in
    let Q = weighted_form e p s P in
    let c0 = scaled d p s c 0 in
    let k = power p e in
    let K = power p e *ℤ power s e in
    let start = lifted e p s u in
    let C = companion (scaled d p s c) in
    let km = power_apart p e m in
    let Km = apart_both (power p e) (power s e) km (power_apart s e n) in
    let stays : (i : ℕ) → form_at d Q (trajectory d (slowed s c) start i) <ℤ pos 0 =
    λ i. negative_of (power k i *ℤ power k i) (form_at d Q (trajectory d (slowed s c) start i)) (square_positive (power k i) (power_apart k i km))
    (subst (λ z. z <ℤ pos 0)
    (sym (value_beside e p s P (trajectory d (slowed s c) start i) (trajectory d C u i) (power k i) K (λ j b. beside e p s c u i j b)))
    (mul_negative (K *ℤ K) (form_at d P (trajectory d C u i)) (square_positive K Km) (f.stays i))) in
    let holds : (v : Vector) → form_at d Q (step d (slowed s c) v) ≤ℤ ((p *ℤ c 0) *ℤ (p *ℤ c 0) *ℤ form_at d Q v) =
    λ v. (let w = step d (slowed s c) v in
    let x = form_at d P (weighted e p s v) in
    let y = form_at d P (weighted e p s w) in
    let next : form_at d P (step d C (weighted e p s v)) ≡ k *ℤ k *ℤ y =
    form_at_same d P (step d C (weighted e p s v)) (λ j. k *ℤ weighted e p s w j) (step_weighted e p s c v)
    ∙ form_multiple d P k (weighted e p s w) in
    let less : (k *ℤ k *ℤ y) ≤ℤ (c0 *ℤ c0 *ℤ x) = subst (λ z. z ≤ℤ (c0 *ℤ c0 *ℤ x)) next (f.holds (weighted e p s v)) in
    rw (weighted_value e p s P w, weighted_value e p s P v)
    (divided_out_weakly k (p *ℤ c 0) x y km (subst (λ z. (k *ℤ k *ℤ y) ≤ℤ (z *ℤ z *ℤ x)) (lead_of e p s c) less))) in (
      Q,
      start,
      record {
        negative = stays 0;
        holds = holds;
        along = along d (p *ℤ c 0) (slowed s c) Q start holds;
        stays = stays;
      },
    )
