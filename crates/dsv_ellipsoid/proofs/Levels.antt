-- A step keeps the level, and the level keeps the output in its bound.
use Rattle.std.proofs.Common.{◌≡◌, ℕ, zero, suc, ◌<◌, ◌≤◌, [], ◌∷◌, refl, sym, ◌∙◌, arith}
use Rattle.std.proofs.Math.IntN.{ℤ, pos, negsuc, ◌+ℤ◌, ◌-ℤ◌, ◌*ℤ◌, neg_ℤ}
use Rattle.std.proofs.lemmas.Int.{ints, by_lt_z}
use lib.Signed.{◌<ℤ◌, ◌≤ℤ◌}
use Rattle.dsv_algebra.proofs.Normaliser.{ring, env, var, plus, times, minus}
use Rattle.dsv_algebra.proofs.Signs.{mul_positive, mul_not_negative}
use Rattle.dsv_algebra.specs.Vectors.{Vector, Matrix, sum_to, form_at, dot}
use Rattle.dsv_algebra.specs.Squares.{size}
use Rattle.dsv_algebra.specs.Companion.{companion}
use Rattle.dsv_algebra.proofs.Sums.{sum_same, sum_scale}
use Rattle.dsv_linear.proofs.Numbers.{times_up, times_back}
use Rattle.dsv_certfile.specs.declared.ellipsoid.Ellipsoid.{Ellipsoid}
use Rattle.dsv_ellipsoid.specs.Good.{form_of, step_form, first_form}
use Rattle.dsv_ellipsoid.specs.Intervals.{LiesIn, greater, output_interval}
use Rattle.dsv_ellipsoid.proofs.Rectangular.{into, with_last, form_read, step_form_at, first_form_at}
use Rattle.dsv_ellipsoid.proofs.Walks.{greater_most}

-- ---- a form at a multiple of a vector
term_scaled : (p k a b : ℤ) → p *ℤ (k *ℤ a) *ℤ (k *ℤ b) ≡ k *ℤ k *ℤ (p *ℤ a *ℤ b)
term_scaled p k a b = ring (env (p ∷ k ∷ a ∷ b ∷ [])) (times (times (var 0) (times (var 1) (var 2))) (times (var 1) (var 3))) (times (times (var 1) (var 1)) (times (times (var 0) (var 2)) (var 3))) refl

pub form_scaled : (d : ℕ) (P : Matrix) (k : ℤ) (v : Vector) → form_at d P (λ i. k *ℤ v i) ≡ k *ℤ k *ℤ form_at d P v
form_scaled d P k v =
    sum_same d (λ i. sum_to d (λ j. P i j *ℤ (k *ℤ v i) *ℤ (k *ℤ v j))) (λ i. k *ℤ k *ℤ sum_to d (λ j. P i j *ℤ v i *ℤ v j))
    (λ i p. sum_same d (λ j. P i j *ℤ (k *ℤ v i) *ℤ (k *ℤ v j)) (λ j. k *ℤ k *ℤ (P i j *ℤ v i *ℤ v j)) (λ j q. term_scaled (P i j) k (v i) (v j))
    ∙ sum_scale d (k *ℤ k) (λ j. P i j *ℤ v i *ℤ v j))
    ∙ sum_scale d (k *ℤ k) (λ i. sum_to d (λ j. P i j *ℤ v i *ℤ v j))

-- ---- squares of numbers in a range
square_within : (g m : ℤ) → neg_ℤ m ≤ℤ g → g ≤ℤ m → (g *ℤ g) ≤ℤ (m *ℤ m)
square_within g m p q =
    let a = mul_not_negative (m -ℤ g) (m +ℤ g) (omega (arith, ints)) (omega (arith, ints)) in
    let e : (m -ℤ g) *ℤ (m +ℤ g) ≡ m *ℤ m -ℤ g *ℤ g = ring (env (g ∷ m ∷ [])) (times (plus (var 1) (minus (var 0))) (plus (var 1) (var 0))) (plus (times (var 1) (var 1)) (minus (times (var 0) (var 0)))) refl in
    omega (arith, ints, a, e)

turned_square : (g : ℤ) → neg_ℤ g *ℤ neg_ℤ g ≡ g *ℤ g
turned_square g = ring (env (g ∷ [])) (times (minus (var 0)) (minus (var 0))) (times (var 0) (var 0)) refl

-- from a square below that of m, which is positive
below_root : (g m : ℤ) → pos 0 <ℤ m → (g *ℤ g) <ℤ (m *ℤ m) → g <ℤ m
below_root g m p h = by_lt_z g m (λ less. less)
    (λ more. absurd (let s = square_within m g (omega (arith, ints)) more in omega (arith, ints, s)))

above_root : (g m : ℤ) → pos 0 <ℤ m → (g *ℤ g) <ℤ (m *ℤ m) → neg_ℤ m <ℤ g
above_root g m p h = let e = turned_square g in let l = below_root (neg_ℤ g) m p (omega (arith, ints, e)) in omega (arith, ints, l)

-- ---- sizes
size_bounds : (z : ℤ) → (neg_ℤ (size z) ≤ℤ z) × (z ≤ℤ size z)
size_bounds (pos n) = (omega (arith, ints), omega (arith, ints))
size_bounds (negsuc n) = (omega (arith, ints), omega (arith, ints))

-- what lies in a range isn't greater in size than both ends
pub within_ends : (low high g : ℤ) → low ≤ℤ g → g ≤ℤ high
    → (neg_ℤ (greater (size low) (size high)) ≤ℤ g) × (g ≤ℤ greater (size low) (size high))
within_ends low high g p q =
    let a = (size_bounds low).0 in
    let b = (size_bounds high).1 in
    let m = greater_most (size low) (size high) in
    let l = m.0 in let h = m.1 in
    (omega (arith, ints, a, l, p), omega (arith, ints, b, h, q))

-- ---- the level
regrouped : (a b c : ℤ) → a *ℤ b *ℤ c ≡ a *ℤ (b *ℤ c)
regrouped a b c = ring (env (a ∷ b ∷ c ∷ [])) (times (times (var 0) (var 1)) (var 2)) (times (var 0) (times (var 1) (var 2))) refl

-- the numbers of a step that keeps the level
level_numbers : (k lambda mu level G g now next : ℤ) → pos 0 <ℤ k → pos 0 ≤ℤ lambda → pos 0 ≤ℤ mu → (lambda *ℤ level +ℤ mu *ℤ (G *ℤ G)) ≤ℤ (k *ℤ k *ℤ level)
    → pos 0 ≤ℤ (lambda *ℤ now +ℤ mu *ℤ g *ℤ g -ℤ k *ℤ k *ℤ next) → neg_ℤ G ≤ℤ g → g ≤ℤ G → now ≤ℤ level → next ≤ℤ level
level_numbers k lambda mu level G g now next pk pl pm falls step low high h =
    let a = times_up lambda now level pl h in
    let b = times_up mu (g *ℤ g) (G *ℤ G) pm (square_within g G low high) in
    let e = regrouped mu g g in
    times_back (k *ℤ k) next level (mul_positive k k pk pk) (omega (arith, ints, a, b, e, falls, step))

-- Where k times the next state is C v and the disturbance in the first place, the next state has at
-- most the level.
pub level_kept : (d : ℕ) (c v next : Vector) (k g G : ℤ) (o : Ellipsoid) → pos 0 <ℤ k → pos 0 ≤ℤ o.lambda → pos 0 ≤ℤ o.mu
    → (o.lambda *ℤ o.level +ℤ o.mu *ℤ (G *ℤ G)) ≤ℤ (k *ℤ k *ℤ o.level)
    → ((u : Vector) → pos 0 ≤ℤ form_at (suc d) (step_form d c o) u)
    → ((i : ℕ) → i < d → k *ℤ next i ≡ dot d (companion c i) v +ℤ into i g)
    → neg_ℤ G ≤ℤ g → g ≤ℤ G → form_at d (form_of o) v ≤ℤ o.level → form_at d (form_of o) next ≤ℤ o.level
level_kept d c v next k g G o pk pl pm falls step moves low high h =
    let value = step_form_at d c v g o in
    let image : form_at d (form_of o) (λ i. dot d (companion c i) v +ℤ into i g) ≡ k *ℤ k *ℤ form_at d (form_of o) next =
    form_read d (form_of o) (λ i. dot d (companion c i) v +ℤ into i g) (λ i. k *ℤ next i) (λ i p. sym (moves i p)) ∙ form_scaled d (form_of o) k next in
    let own = step (with_last d v g) in
    level_numbers k o.lambda o.mu o.level G g (form_at d (form_of o) v) (form_at d (form_of o) next) pk pl pm falls (omega (arith, ints, value, image, own)) low high h

-- ---- the bound
bound_numbers : (kappa nu level bound y now : ℤ) → pos 1 ≤ℤ kappa → pos 0 ≤ℤ nu → pos 0 ≤ℤ bound → (nu *ℤ level) <ℤ (kappa *ℤ ((bound +ℤ pos 1) *ℤ (bound +ℤ pos 1)))
    → pos 0 ≤ℤ (nu *ℤ now -ℤ kappa *ℤ y *ℤ y) → now ≤ℤ level → LiesIn (output_interval bound) y
bound_numbers kappa nu level bound y now pk pn pb far first h =
    let m = bound +ℤ pos 1 in
    let a = times_up nu now level pn h in
    let e = regrouped kappa y y in
    let less : (y *ℤ y) <ℤ (m *ℤ m) = by_lt_z (y *ℤ y) (m *ℤ m) (λ l. l)
    (λ more. absurd (let b = times_up kappa (m *ℤ m) (y *ℤ y) (omega (arith, ints)) more in omega (arith, ints, a, b, e, far, first))) in
    let top = below_root y m (omega (arith, ints)) less in
    let bottom = above_root y m (omega (arith, ints)) less in
    record { least = omega (arith, ints, bottom); most = omega (arith, ints, top) }

pub bound_kept : (d : ℕ) (o : Ellipsoid) (v : Vector) → 1 ≤ d → pos 1 ≤ℤ o.kappa → pos 0 ≤ℤ o.nu → pos 0 ≤ℤ o.bound
    → (o.nu *ℤ o.level) <ℤ (o.kappa *ℤ ((o.bound +ℤ pos 1) *ℤ (o.bound +ℤ pos 1)))
    → ((u : Vector) → pos 0 ≤ℤ form_at d (first_form o) u) → form_at d (form_of o) v ≤ℤ o.level → LiesIn (output_interval o.bound) (v 0)
bound_kept zero o v p pk pn pb far first h = absurd (omega arith)
bound_kept (suc e) o v p pk pn pb far first h =
    let value = first_form_at e o v in
    let own = first v in
    bound_numbers o.kappa o.nu o.level o.bound (v 0) (form_at (suc e) (form_of o) v) pk pn pb far (omega (arith, ints, value, own)) h
