-- No system has both a form that strictly falls and a form that is kept away from 0.
use Rattle.std.proofs.Common.{◌≡◌, ℕ, zero, suc, [], ◌∷◌, refl, ap, ◌∙◌, arith}
use Rattle.std.proofs.Math.IntN.{ℤ, pos, negsuc, ◌+ℤ◌, ◌-ℤ◌, ◌*ℤ◌, neg_ℤ}
use Rattle.std.proofs.lemmas.Int.{ints}
use Rattle.std.specs.Int.RustNames.{unsigned_abs}
use lib.Signed.{◌<ℤ◌, ◌≤ℤ◌}
use Rattle.dsv_algebra.specs.Vectors.{Vector, Matrix, dot, form_at}
use Rattle.dsv_algebra.specs.Falling.{trajectory, power, fall_form, StrictlyFalls}
use Rattle.dsv_algebra.proofs.Normaliser.{ring, env, var, num, plus, times, minus}
use Rattle.dsv_algebra.proofs.Signs.{mul_not_negative, mul_negative}
use Rattle.dsv_algebra.proofs.Sums.{form_neg}
use Rattle.dsv_algebra.proofs.Falling.{loss-fall_form}
use Rattle.dsv_algebra.proofs.Definite.{square_not_negative}
use Rattle.dsv_algebra.proofs.KeptAway.{power_positive}
use Rattle.dsv_apart.specs.Apart.{NothingIsBoth}
use Rattle.dsv_apart.proofs.Bounds.{bounded_through, bound_not_negative, form_bounded, squares_not_negative, times_at_most}
use Rattle.dsv_apart.proofs.LastPlace.{IsPositive, squares_bounded}

-- ---- sequences that lose in each step
positive_of : (z x : ℤ) → pos 0 ≤ℤ z → pos 0 <ℤ (z *ℤ x) → pos 0 <ℤ z
positive_of (pos zero) x p h =
    let e : pos 0 *ℤ x ≡ pos 0 = ring (env (x ∷ [])) (times (num (pos 0)) (var 0)) (num (pos 0)) refl in
    absurd (omega (arith, ints))
positive_of (pos (suc n)) x p h = omega (arith, ints)
positive_of (negsuc n) x p h = absurd (omega (arith, ints))

at_start : (a w : ℤ) → a ≡ pos 1 *ℤ (a +ℤ pos 0 *ℤ w)
at_start a w = ring (env (a ∷ w ∷ [])) (var 0) (times (num (pos 1)) (plus (var 0) (times (num (pos 0)) (var 1)))) refl

one_more : (z p a n w : ℤ) → z *ℤ (p *ℤ (a +ℤ n *ℤ w) +ℤ p *ℤ w) ≡ z *ℤ p *ℤ (a +ℤ (n +ℤ pos 1) *ℤ w)
one_more z p a n w =
    ring (env (z ∷ p ∷ a ∷ n ∷ w ∷ []))
    (times (var 0) (plus (times (var 1) (plus (var 2) (times (var 3) (var 4)))) (times (var 1) (var 4))))
    (times (times (var 0) (var 1)) (plus (var 2) (times (plus (var 3) (num (pos 1))) (var 4)))) refl

-- Where each number is at most z times the one before it plus w z^n, z times the n-th is at most z^n times the sum of z times the first and n w.
losses_add_up : (z w : ℤ) (g u : ℕ → ℤ) → pos 0 ≤ℤ z → ((n : ℕ) → g (suc n) ≤ℤ (z *ℤ g n +ℤ u n)) → ((n : ℕ) → u n ≤ℤ (power z n *ℤ w))
    → (n : ℕ) → (z *ℤ g n) ≤ℤ (power z n *ℤ (z *ℤ g 0 +ℤ pos n *ℤ w))
losses_add_up z w g u up steps below zero = let e = at_start (z *ℤ g 0) w in omega (arith, ints)
losses_add_up z w g u up steps below (suc n) =
    let a = z *ℤ g 0 in
    let p = power z n in
    let ih = losses_add_up z w g u up steps below n in
    let h = below n in
    let s = steps n in
    let next : g (suc n) ≤ℤ (p *ℤ (a +ℤ pos n *ℤ w) +ℤ p *ℤ w) = omega (arith, ints) in
    let x = times_at_most z (g (suc n)) (p *ℤ (a +ℤ pos n *ℤ w) +ℤ p *ℤ w) up next in
    let k : pos n +ℤ pos 1 ≡ pos (suc n) = omega (arith, ints) in
    let e = one_more z p a (pos n) w ∙ ap (λ t. z *ℤ p *ℤ (a +ℤ t *ℤ w)) k in
    omega (arith, ints)

below_size : (a : ℤ) → a <ℤ pos (suc (unsigned_abs a))
below_size a = omega (arith, ints)

minus_one : (n : ℤ) → n *ℤ negsuc 0 ≡ neg_ℤ n
minus_one n = ring (env (n ∷ [])) (times (var 0) (num (negsuc 0))) (minus (var 0)) refl

-- for a negative w the numbers are not all 0 or more
none_runs : (z w : ℤ) (g u : ℕ → ℤ) → pos 0 ≤ℤ z → w <ℤ pos 0 → ((n : ℕ) → pos 0 ≤ℤ g n)
    → ((n : ℕ) → g (suc n) ≤ℤ (z *ℤ g n +ℤ u n)) → ((n : ℕ) → u n ≤ℤ (power z n *ℤ w)) → ⊥
none_runs z w g u up down least steps below =
    let a = z *ℤ g 0 in
    let n = suc (unsigned_abs a) in
    let first = steps 0 in
    let first_least = least 1 in
    let first_below = below 0 in
    let one : pos 1 *ℤ w ≡ w = ring (env (w ∷ [])) (times (num (pos 1)) (var 0)) (var 0) refl in
    let positive = positive_of z (g 0) up (omega (arith, ints)) in
    let many = below_size a in
    let x = times_at_most (pos n) w (negsuc 0) (omega (arith, ints)) (omega (arith, ints)) in
    let y = minus_one (pos n) in
    let negative = mul_negative (power z n) (a +ℤ pos n *ℤ w) (power_positive z n positive) (omega (arith, ints)) in
    let most = losses_add_up z w g u up steps below n in
    let left = mul_not_negative z (g n) up (least n) in
    omega (arith, ints)

-- ---- both forms
fall_positive : (d : ℕ) (q : ℤ) (M P : Matrix) → StrictlyFalls d q M P → IsPositive d (fall_form d q M P)
fall_positive d q M P s v n =
    let e = loss-fall_form d q M P v in
    let h = s.falls v n in
    omega (arith, ints)

form_least : (d : ℕ) (P : Matrix) → IsPositive d P → (v : Vector) → pos 0 ≤ℤ form_at d P v
form_least d P h v = bound_not_negative (λ u. dot d u u) (form_at d P) (squares_bounded d P h) v (squares_not_negative d v)

step_loses : (l z p n w f : ℤ) → f ≡ z *ℤ p -ℤ n → neg_ℤ w ≤ℤ (l *ℤ f) → (l *ℤ n) ≤ℤ (z *ℤ (l *ℤ p) +ℤ w)
step_loses l z p n w f e h =
    let g : l *ℤ f ≡ z *ℤ (l *ℤ p) -ℤ l *ℤ n =
    ap (λ t. l *ℤ t) e
    ∙ ring (env (l ∷ z ∷ p ∷ n ∷ [])) (times (var 0) (plus (times (var 1) (var 2)) (minus (var 3)))) (plus (times (var 1) (times (var 0) (var 2))) (minus (times (var 0) (var 3)))) refl in
    omega (arith, ints)

pub nothing_both : NothingIsBoth
nothing_both d q M P W start falls kept =
    let F = fall_form d q M P in
    let opposite : Matrix = λ i j. neg_ℤ (W i j) in
    let b = bounded_through (form_at d opposite) (λ v. dot d v v) (form_at d F) (form_bounded d opposite) (squares_bounded d F (fall_positive d q M P falls)) in
    let t = trajectory d M start in
    none_runs (q *ℤ q) (form_at d W start) (λ n. b.factor *ℤ form_at d P (t n)) (λ n. form_at d W (t n))
    (square_not_negative q) kept.negative
    (λ n. mul_not_negative b.factor (form_at d P (t n)) (let p = b.positive in omega (arith, ints)) (form_least d P falls.positive (t n)))
    (λ n. step_loses b.factor (q *ℤ q) (form_at d P (t n)) (form_at d P (t (suc n))) (form_at d W (t n)) (form_at d F (t n)) (loss-fall_form d q M P (t n))
    (let e = form_neg d W (t n) in let h = b.most (t n) in omega (arith, ints)))
    kept.along
