-- Positive forms, their last place split off by a square.
use Rattle.std.proofs.Common.{◌≡◌, ◌≢◌, inl, inr, ℕ, zero, suc, ◌<◌, cond, eqb, [], ◌∷◌, refl, sym, ap, ◌∙◌, arith}
use Rattle.std.proofs.Math.IntN.{ℤ, pos, ◌+ℤ◌, ◌-ℤ◌, ◌*ℤ◌, neg_ℤ}
use Rattle.std.proofs.lemmas.Int.{ints}
use Rattle.std.proofs.lemmas.Bool.{eq-eqb}
use Rattle.std.proofs.lemmas.Bool.Decides.{eqb_tells}
use lib.Signed.{◌<ℤ◌, ◌≤ℤ◌}
use Rattle.dsv_algebra.specs.Vectors.{Vector, Matrix, sum_to, dot, form_at, IsNotZero}
use Rattle.dsv_algebra.specs.Squares.{square}
use Rattle.dsv_algebra.proofs.Normaliser.{ring, env, var, num, plus, times, minus}
use Rattle.dsv_algebra.proofs.Signs.{mul_positive, mul_not_negative, square_positive, positive_factor}
use Rattle.dsv_algebra.proofs.Ring.{assoc}
use Rattle.dsv_algebra.proofs.Sums.{sum_same, sum_add, sum_scale, form_add, form_scale, form_neg, form_square}
use Rattle.dsv_algebra.proofs.Dots.{dot_same, dot_scale}
use Rattle.dsv_algebra.proofs.Definite.{square_not_negative}
use Rattle.dsv_apart.proofs.Bounds.{IsBounded, bounded_through, bounded_add, bound_not_negative, form_bounded, squares_not_negative}

-- the form is positive at each integer vector other than 0
abbrev pub IsPositive : ℕ → Matrix → Type 0
IsPositive d A = (v : Vector) → IsNotZero d v → pos 0 <ℤ form_at d A v

-- what the form multiplies the last place with
abbrev mixed : ℕ → Matrix → Vector
mixed d A i = A i d +ℤ A d i

mixed_term : (a b x y : ℤ) → a *ℤ x *ℤ y +ℤ b *ℤ y *ℤ x ≡ y *ℤ ((a +ℤ b) *ℤ x)
mixed_term a b x y =
    ring (env (a ∷ b ∷ x ∷ y ∷ [])) (plus (times (times (var 0) (var 2)) (var 3)) (times (times (var 1) (var 3)) (var 2))) (times (var 3) (times (plus (var 0) (var 1)) (var 2))) refl

mixed_sum : (d : ℕ) (A : Matrix) (v : Vector) → sum_to d (λ i. A i d *ℤ v i *ℤ v d) +ℤ sum_to d (λ j. A d j *ℤ v d *ℤ v j) ≡ v d *ℤ dot d (mixed d A) v
mixed_sum d A v =
    sym (sum_add d (λ i. A i d *ℤ v i *ℤ v d) (λ i. A d i *ℤ v d *ℤ v i))
    ∙ sum_same d (λ i. A i d *ℤ v i *ℤ v d +ℤ A d i *ℤ v d *ℤ v i) (λ i. v d *ℤ (mixed d A i *ℤ v i)) (λ i p. mixed_term (A i d) (A d i) (v i) (v d))
    ∙ sum_scale d (v d) (λ i. mixed d A i *ℤ v i)

parts_gathered : (f a b c m : ℤ) → a +ℤ b ≡ m → (f +ℤ a) +ℤ (b +ℤ c) ≡ f +ℤ m +ℤ c
parts_gathered f a b c m e = omega (arith, ints)

form_last : (d : ℕ) (A : Matrix) (v : Vector) → form_at (suc d) A v ≡ form_at d A v +ℤ v d *ℤ dot d (mixed d A) v +ℤ A d d *ℤ v d *ℤ v d
form_last d A v =
    ap (λ s. s +ℤ (sum_to d (λ j. A d j *ℤ v d *ℤ v j) +ℤ A d d *ℤ v d *ℤ v d)) (sum_add d (λ i. sum_to d (λ j. A i j *ℤ v i *ℤ v j)) (λ i. A i d *ℤ v i *ℤ v d))
    ∙ parts_gathered (form_at d A v) (sum_to d (λ i. A i d *ℤ v i *ℤ v d)) (sum_to d (λ j. A d j *ℤ v d *ℤ v j)) (A d d *ℤ v d *ℤ v d) (v d *ℤ dot d (mixed d A) v) (mixed_sum d A v)

-- ---- a vector with another last place
abbrev extended : ℕ → ℤ → Vector → ℤ → Vector
extended d c v z i = cond (eqb i d) z (c *ℤ v i)

extended_below : (d : ℕ) (c : ℤ) (v : Vector) (z : ℤ) (i : ℕ) → i < d → extended d c v z i ≡ c *ℤ v i
extended_below d c v z i p = elim (eqb_tells i d) [ inl e ↦ (let s = e.1 in absurd (omega arith)) | inr e ↦ rw e.0 refl ]

extended_last : (d : ℕ) (c : ℤ) (v : Vector) (z : ℤ) → extended d c v z d ≡ z
extended_last d c v z = rw (eq-eqb d d refl) refl

multiple_term : (a c x y : ℤ) → a *ℤ (c *ℤ x) *ℤ (c *ℤ y) ≡ c *ℤ c *ℤ (a *ℤ x *ℤ y)
multiple_term a c x y =
    ring (env (a ∷ c ∷ x ∷ y ∷ [])) (times (times (var 0) (times (var 1) (var 2))) (times (var 1) (var 3))) (times (times (var 1) (var 1)) (times (times (var 0) (var 2)) (var 3))) refl

form_multiple : (d : ℕ) (A : Matrix) (c : ℤ) (u v : Vector) → ((i : ℕ) → i < d → u i ≡ c *ℤ v i) → form_at d A u ≡ c *ℤ c *ℤ form_at d A v
form_multiple d A c u v h =
    sum_same d (λ i. sum_to d (λ j. A i j *ℤ u i *ℤ u j)) (λ i. c *ℤ c *ℤ sum_to d (λ j. A i j *ℤ v i *ℤ v j)) (λ i p.
    sum_same d (λ j. A i j *ℤ u i *ℤ u j) (λ j. c *ℤ c *ℤ (A i j *ℤ v i *ℤ v j)) (λ j q. ap (λ x. A i j *ℤ x *ℤ u j) (h i p) ∙ ap (λ y. A i j *ℤ (c *ℤ v i) *ℤ y) (h j q) ∙ multiple_term (A i j) c (v i) (v j))
    ∙ sum_scale d (c *ℤ c) (λ j. A i j *ℤ v i *ℤ v j))
    ∙ sum_scale d (c *ℤ c) (λ i. sum_to d (λ j. A i j *ℤ v i *ℤ v j))

form_extended : (d : ℕ) (A : Matrix) (c : ℤ) (v : Vector) (z : ℤ)
    → form_at (suc d) A (extended d c v z) ≡ c *ℤ c *ℤ form_at d A v +ℤ z *ℤ (c *ℤ dot d (mixed d A) v) +ℤ A d d *ℤ z *ℤ z
form_extended d A c v z =
    let u = extended d c v z in
    let s = form_multiple d A c u v (extended_below d c v z) in
    let t : dot d (mixed d A) u ≡ c *ℤ dot d (mixed d A) v = dot_same d (mixed d A) u (λ i. c *ℤ v i) (extended_below d c v z) ∙ sym (dot_scale d (mixed d A) c v) in
    form_last d A u
    ∙ ap (λ y. form_at d A u +ℤ y *ℤ dot d (mixed d A) u +ℤ A d d *ℤ y *ℤ y) (extended_last d c v z)
    ∙ ap (λ x. x +ℤ z *ℤ dot d (mixed d A) u +ℤ A d d *ℤ z *ℤ z) s
    ∙ ap (λ x. c *ℤ c *ℤ form_at d A v +ℤ z *ℤ x +ℤ A d d *ℤ z *ℤ z) t

-- ---- what is left after the square
abbrev rest : ℕ → Matrix → Matrix
rest d A i j = pos 4 *ℤ A d d *ℤ A i j +ℤ neg_ℤ (square (pos 1) (mixed d A) i j)

rest_at : (d : ℕ) (A : Matrix) (v : Vector) → form_at d (rest d A) v ≡ pos 4 *ℤ A d d *ℤ form_at d A v +ℤ neg_ℤ (pos 1 *ℤ dot d (mixed d A) v *ℤ dot d (mixed d A) v)
rest_at d A v =
    form_add d (λ i j. pos 4 *ℤ A d d *ℤ A i j) (λ i j. neg_ℤ (square (pos 1) (mixed d A) i j)) v
    ∙ rw (form_scale d (pos 4 *ℤ A d d) A v, form_neg d (square (pos 1) (mixed d A)) v, form_square d (pos 1) (mixed d A) v) refl

unit_value : (f m a : ℤ) → pos 0 *ℤ pos 0 *ℤ f +ℤ pos 1 *ℤ (pos 0 *ℤ m) +ℤ a *ℤ pos 1 *ℤ pos 1 ≡ a
unit_value f m a =
    ring (env (f ∷ m ∷ a ∷ [])) (plus (plus (times (times (num (pos 0)) (num (pos 0))) (var 0)) (times (num (pos 1)) (times (num (pos 0)) (var 1)))) (times (times (var 2) (num (pos 1))) (num (pos 1)))) (var 2) refl

last_positive : (d : ℕ) (A : Matrix) → IsPositive (suc d) A → pos 0 <ℤ A d d
last_positive d A h =
    let none : Vector = λ i. pos 0 in
    let u = extended d (pos 0) none (pos 1) in
    let e : form_at (suc d) A u ≡ A d d = form_extended d A (pos 0) none (pos 1) ∙ unit_value (form_at d A none) (dot d (mixed d A) none) (A d d) in
    let one = extended_last d (pos 0) none (pos 1) in
    let p = h u (d, omega arith, λ z. absurd (omega (arith, ints))) in
    omega (arith, ints)

twice_apart : (a x : ℤ) → pos 0 <ℤ a → x ≢ pos 0 → (pos 2 *ℤ a *ℤ x) ≢ pos 0
twice_apart a x p n e =
    let c = pos 2 *ℤ a in
    let s = mul_positive c (x *ℤ x) (mul_positive (pos 2) a (omega (arith, ints)) p) (square_positive x n) in
    let z : c *ℤ (x *ℤ x) ≡ pos 0 *ℤ x = sym (assoc c x x) ∙ ap (λ t. t *ℤ x) e in
    let y : pos 0 *ℤ x ≡ pos 0 = ring (env (x ∷ [])) (times (num (pos 0)) (var 0)) (num (pos 0)) refl in
    absurd (omega (arith, ints))

rest_value : (f m a : ℤ) → (pos 2 *ℤ a) *ℤ (pos 2 *ℤ a) *ℤ f +ℤ neg_ℤ m *ℤ ((pos 2 *ℤ a) *ℤ m) +ℤ a *ℤ neg_ℤ m *ℤ neg_ℤ m ≡ a *ℤ (pos 4 *ℤ a *ℤ f +ℤ neg_ℤ (pos 1 *ℤ m *ℤ m))
rest_value f m a =
    let t = times (num (pos 2)) (var 2) in
    let n = minus (var 1) in
    ring (env (f ∷ m ∷ a ∷ [])) (plus (plus (times (times t t) (var 0)) (times n (times t (var 1)))) (times (times (var 2) n) n))
    (times (var 2) (plus (times (times (num (pos 4)) (var 2)) (var 0)) (minus (times (times (num (pos 1)) (var 1)) (var 1))))) refl

rest_positive : (d : ℕ) (A : Matrix) → IsPositive (suc d) A → IsPositive d (rest d A)
rest_positive d A h v (i, below, apart) =
    let a = A d d in
    let m = dot d (mixed d A) v in
    let c = pos 2 *ℤ a in
    let u = extended d c v (neg_ℤ m) in
    let up = last_positive d A h in
    let e : form_at (suc d) A u ≡ a *ℤ form_at d (rest d A) v =
    form_extended d A c v (neg_ℤ m) ∙ rest_value (form_at d A v) m a ∙ ap (λ t. a *ℤ t) (sym (rest_at d A v)) in
    let p = h u (i, omega arith, λ z. twice_apart a (v i) up apart (sym (extended_below d c v (neg_ℤ m) i below) ∙ z)) in
    positive_factor a (form_at d (rest d A) v) up (omega (arith, ints))

-- ---- bounds
completed_square : (f m a z : ℤ) → pos 4 *ℤ a *ℤ (f +ℤ z *ℤ m +ℤ a *ℤ z *ℤ z) ≡ (pos 2 *ℤ a *ℤ z +ℤ m) *ℤ (pos 2 *ℤ a *ℤ z +ℤ m) +ℤ (pos 4 *ℤ a *ℤ f +ℤ neg_ℤ (pos 1 *ℤ m *ℤ m))
completed_square f m a z =
    let s = plus (times (times (num (pos 2)) (var 2)) (var 3)) (var 1) in
    ring (env (f ∷ m ∷ a ∷ z ∷ []))
    (times (times (num (pos 4)) (var 2)) (plus (plus (var 0) (times (var 3) (var 1))) (times (times (var 2) (var 3)) (var 3))))
    (plus (times s s) (plus (times (times (num (pos 4)) (var 2)) (var 0)) (minus (times (times (num (pos 1)) (var 1)) (var 1))))) refl

-- 4 a times the form is a square and what is left
square_and_rest : (d : ℕ) (A : Matrix) (v : Vector)
    → pos 4 *ℤ A d d *ℤ form_at (suc d) A v
    ≡ (pos 2 *ℤ A d d *ℤ v d +ℤ dot d (mixed d A) v) *ℤ (pos 2 *ℤ A d d *ℤ v d +ℤ dot d (mixed d A) v) +ℤ form_at d (rest d A) v
square_and_rest d A v =
    let m = dot d (mixed d A) v in
    let s = pos 2 *ℤ A d d *ℤ v d +ℤ m in
    ap (λ t. pos 4 *ℤ A d d *ℤ t) (form_last d A v) ∙ completed_square (form_at d A v) m (A d d) (v d) ∙ ap (λ t. s *ℤ s +ℤ t) (sym (rest_at d A v))

four_positive : (a : ℤ) → pos 0 <ℤ a → pos 0 <ℤ (pos 4 *ℤ a)
four_positive a h = mul_positive (pos 4) a (omega (arith, ints)) h

rest_bounded : (d : ℕ) (A : Matrix) → IsPositive (suc d) A → IsBounded (form_at d (rest d A)) (form_at (suc d) A)
rest_bounded d A h = record {
  factor = pos 4 *ℤ A d d;
  positive = four_positive (A d d) (last_positive d A h);
  most = λ v.
      let e = square_and_rest d A v in
      let s = square_not_negative (pos 2 *ℤ A d d *ℤ v d +ℤ dot d (mixed d A) v) in
      omega (arith, ints);
}

-- the square of the last place by the two squares
last_most : (a z m : ℤ) → pos 0 <ℤ a → (z *ℤ z) ≤ℤ (pos 2 *ℤ ((pos 2 *ℤ a *ℤ z +ℤ m) *ℤ (pos 2 *ℤ a *ℤ z +ℤ m)) +ℤ pos 2 *ℤ (m *ℤ m))
last_most a z m h =
    let s = pos 2 *ℤ a *ℤ z +ℤ m in
    let many : pos 0 ≤ℤ (pos 4 *ℤ (a *ℤ a) -ℤ pos 1) = (let p = mul_positive a a h h in omega (arith, ints)) in
    let x = mul_not_negative (pos 4 *ℤ (a *ℤ a) -ℤ pos 1) (z *ℤ z) many (square_not_negative z) in
    let y = square_not_negative (s +ℤ m) in
    let e : pos 2 *ℤ (s *ℤ s) +ℤ pos 2 *ℤ (m *ℤ m) ≡ z *ℤ z +ℤ (pos 4 *ℤ (a *ℤ a) -ℤ pos 1) *ℤ (z *ℤ z) +ℤ (s +ℤ m) *ℤ (s +ℤ m) =
    (let k = plus (times (times (num (pos 2)) (var 0)) (var 1)) (var 2) in
    let l = plus k (var 2) in
    let zz = times (var 1) (var 1) in
    ring (env (a ∷ z ∷ m ∷ [])) (plus (times (num (pos 2)) (times k k)) (times (num (pos 2)) (times (var 2) (var 2))))
    (plus (plus zz (times (plus (times (num (pos 4)) (times (var 0) (var 0))) (minus (num (pos 1)))) zz)) (times l l)) refl) in
    omega (arith, ints)

one_square : (m : ℤ) → m *ℤ m ≡ pos 1 *ℤ m *ℤ m
one_square m = ring (env (m ∷ [])) (times (var 0) (var 0)) (times (times (num (pos 1)) (var 0)) (var 0)) refl

last_bounded : (d : ℕ) (A : Matrix) → IsPositive (suc d) A → IsBounded (λ v. dot d v v) (form_at d (rest d A)) → IsBounded (λ v. v d *ℤ v d) (form_at (suc d) A)
last_bounded d A h inner =
    let a = A d d in
    let many : Vector → ℤ = λ v. dot d v v in
    let whole = form_at (suc d) A in
    let up = last_positive d A h in
    let k = bounded_through (form_at d (square (pos 1) (mixed d A))) many whole (form_bounded d (square (pos 1) (mixed d A)))
    (bounded_through many (form_at d (rest d A)) whole inner (rest_bounded d A h)) in
    record {
      factor = pos 2 *ℤ (pos 4 *ℤ a) +ℤ pos 2 *ℤ k.factor;
      positive = (let p = four_positive a up in let q = k.positive in omega (arith, ints));
      most = λ v.
          let m = dot d (mixed d A) v in
          let s = pos 2 *ℤ a *ℤ v d +ℤ m in
          let x = last_most a (v d) m up in
          let e = square_and_rest d A v in
          let r = bound_not_negative many (form_at d (rest d A)) inner v (squares_not_negative d v) in
          let y : (s *ℤ s) ≤ℤ (pos 4 *ℤ a *ℤ whole v) = omega (arith, ints) in
          let f = one_square m ∙ sym (form_square d (pos 1) (mixed d A) v) in
          let w : (m *ℤ m) ≤ℤ (k.factor *ℤ whole v) = (let t = k.most v in omega (arith, ints)) in
          let g : (pos 2 *ℤ (pos 4 *ℤ a) +ℤ pos 2 *ℤ k.factor) *ℤ whole v ≡ pos 2 *ℤ (pos 4 *ℤ a *ℤ whole v) +ℤ pos 2 *ℤ (k.factor *ℤ whole v) =
          ring (env (a ∷ k.factor ∷ whole v ∷ [])) (times (plus (times (num (pos 2)) (times (num (pos 4)) (var 0))) (times (num (pos 2)) (var 1))) (var 2))
          (plus (times (num (pos 2)) (times (times (num (pos 4)) (var 0)) (var 2))) (times (num (pos 2)) (times (var 1) (var 2)))) refl in
          omega (arith, ints);
    }

-- the sum of the squares is at most a multiple of a positive form
pub squares_bounded : (d : ℕ) (A : Matrix) → IsPositive d A → IsBounded (λ v. dot d v v) (form_at d A)
squares_bounded zero A h = record { factor = pos 1; positive = omega (arith, ints); most = λ v. omega (arith, ints) }
squares_bounded (suc d) A h =
    let inner = squares_bounded d (rest d A) (rest_positive d A h) in
    bounded_add (λ v. dot d v v) (λ v. v d *ℤ v d) (form_at (suc d) A)
    (bounded_through (λ v. dot d v v) (form_at d (rest d A)) (form_at (suc d) A) inner (rest_bounded d A h))
    (last_bounded d A h inner)
