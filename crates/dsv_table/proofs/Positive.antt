-- A polynomial whose table has positive first numbers has a positive Schur-Cohn form.
use Rattle.std.proofs.Common.{◌≡◌, ◌≢◌, ℕ, zero, suc, ◌<◌, [], ◌∷◌, refl, ◌∙◌, arith}
use Rattle.std.proofs.Math.IntN.{ℤ, pos, ◌+ℤ◌, ◌*ℤ◌, +ℤ_idr}
use Rattle.std.proofs.lemmas.Int.{ints}
use lib.Signed.{◌<ℤ◌}
use Rattle.dsv_algebra.specs.Vectors.{Vector, Matrix, sum_to, form_at, dot, IsNotZero}
use Rattle.dsv_algebra.proofs.Normaliser.{ring, env, var, num, times}
use Rattle.dsv_algebra.proofs.Signs.{mul_positive, square_positive, positive_factor}
use Rattle.dsv_algebra.proofs.Sums.{sum_same, sum_first, sum_none, last_of}
use Rattle.dsv_algebra.proofs.Definite.{square_not_negative}
use Rattle.dsv_table.specs.SchurCohn.{schur_cohn}
use Rattle.dsv_table.specs.Table.{row_after}
use Rattle.dsv_table.proofs.Sides.{IsInside}
use Rattle.dsv_table.proofs.Steps.{form_step}

times_none : (a b : ℤ) → b ≡ pos 0 → a *ℤ b ≡ pos 0
times_none a b e = rw e (ring (env (a ∷ [])) (times (var 0) (num (pos 0))) (num (pos 0)) refl)

-- a sum of products with numbers that are all 0
pub none_from : (e : ℕ) (g w : Vector) → ((j : ℕ) → j < e → w j ≡ pos 0) → sum_to e (λ j. g j *ℤ w j) ≡ pos 0
none_from e g w h = sum_same e (λ j. g j *ℤ w j) (λ j. pos 0) (λ j b. times_none (g j) (w j) (h j b)) ∙ sum_none e

-- a form at a vector that is 0
pub form_none : (e : ℕ) (M : Matrix) (w : Vector) → ((j : ℕ) → j < e → w j ≡ pos 0) → form_at e M w ≡ pos 0
form_none e M w h =
    sum_same e (λ i. sum_to e (λ j. M i j *ℤ w i *ℤ w j)) (λ i. pos 0) (λ i b. none_from e (λ j. M i j *ℤ w i) w h)
    ∙ sum_none e

pub apart_product : (a b : ℤ) → pos 0 <ℤ a → b ≢ pos 0 → (a *ℤ b) ≢ pos 0
apart_product a b p n e =
    let s = square_positive b n in
    let t : pos 0 <ℤ (a *ℤ (b *ℤ b)) = product_positive in
    let u : a *ℤ (b *ℤ b) ≡ (a *ℤ b) *ℤ b = ring (env (a ∷ b ∷ [])) (times (var 0) (times (var 1) (var 1))) (times (times (var 0) (var 1)) (var 1)) refl in
    let z : (a *ℤ b) *ℤ b ≡ pos 0 = rw e (ring (env (b ∷ [])) (times (num (pos 0)) (var 0)) (num (pos 0)) refl) in
    absurd (omega (arith, ints, t, u, z))
  where
    product_positive : pos 0 <ℤ (a *ℤ (b *ℤ b))
    product_positive = mul_positive a (b *ℤ b) p (square_positive b n)

by_rest : (r h g m : ℤ) → pos 0 <ℤ r → r *ℤ h ≡ g *ℤ g +ℤ m → pos 0 <ℤ m → pos 0 <ℤ h
by_rest r h g m p e q =
    let s = square_not_negative g in
    positive_factor r h p (rw e (omega (arith, ints, s, q)))

by_square : (r h g m : ℤ) → pos 0 <ℤ r → r *ℤ h ≡ g *ℤ g +ℤ m → m ≡ pos 0 → g ≢ pos 0 → pos 0 <ℤ h
by_square r h g m p e q n =
    let s = square_positive g n in
    positive_factor r h p (rw e (omega (arith, ints, s, q)))

-- at a vector whose last place that isn't 0 is known
at_last : (e : ℕ) (c v : Vector) (k : ℕ)
    → ((w : Vector) → IsNotZero e w → pos 0 <ℤ form_at e (schur_cohn e (row_after (suc e) c)) w)
    → pos 0 <ℤ row_after (suc e) c 0 → k < suc e → v k ≢ pos 0 → ((j : ℕ) → k < j → j < suc e → v j ≡ pos 0)
    → pos 0 <ℤ form_at (suc e) (schur_cohn (suc e) c) v
at_last e c v zero below p h n after =
    let R = row_after (suc e) c in
    let w : Vector = λ i. v (suc i) in
    let none : (j : ℕ) → j < e → w j ≡ pos 0 = λ j b. after (suc j) (omega arith) (omega arith) in
    let g : dot (suc e) R v ≡ R 0 *ℤ v 0 = sum_first e (λ i. R i *ℤ v i) ∙ rw (none_from e (λ j. R (suc j)) w none) (+ℤ_idr (R 0 *ℤ v 0)) in
    by_square (R 0) (form_at (suc e) (schur_cohn (suc e) c) v) (dot (suc e) R v) (form_at e (schur_cohn e R) w) p (form_step e c v)
    (form_none e (schur_cohn e R) w none) (rw g (apart_product (R 0) (v 0) p n))
at_last e c v (suc k) below p h n after =
    let R = row_after (suc e) c in
    let w : Vector = λ i. v (suc i) in
    by_rest (R 0) (form_at (suc e) (schur_cohn (suc e) c) v) (dot (suc e) R v) (form_at e (schur_cohn e R) w) p (form_step e c v)
    (below w (k, omega arith, n))

pub form_positive : (d : ℕ) (c v : Vector) → IsInside d c → IsNotZero d v → pos 0 <ℤ form_at d (schur_cohn d c) v
form_positive zero c v h (i, below, apart) = absurd (omega arith)
form_positive (suc e) c v (p, h) (i, below, apart) =
    let l = last_of (suc e) v i below apart in
    at_last e c v l.place (λ w n. form_positive e (row_after (suc e) c) w h n) p l.below l.apart l.after
