-- Functions of a vector that are at most a multiple of another.
use Rattle.std.proofs.Common.{◌≡◌, inl, inr, ℕ, zero, suc, ◌<◌, [], ◌∷◌, refl, arith}
use Rattle.std.proofs.Math.IntN.{ℤ, pos, ◌+ℤ◌, ◌-ℤ◌, ◌*ℤ◌}
use Rattle.std.proofs.lemmas.Int.{ints}
use Rattle.std.proofs.lemmas.Bool.{cases_lt}
use lib.Signed.{◌<ℤ◌, ◌≤ℤ◌}
use Rattle.dsv_algebra.specs.Vectors.{Vector, Matrix, sum_to, dot, form_at}
use Rattle.dsv_algebra.proofs.Normaliser.{ring, env, var, num, plus, times, minus}
use Rattle.dsv_algebra.proofs.Signs.{mul_positive, mul_not_negative, not_negative_factor}
use Rattle.dsv_algebra.proofs.Ring.{assoc}
use Rattle.dsv_algebra.proofs.Sums.{sum_not_negative}
use Rattle.dsv_algebra.proofs.Definite.{square_not_negative}

-- both sides times a number that isn't negative
pub times_at_most : (m a b : ℤ) → pos 0 ≤ℤ m → a ≤ℤ b → (m *ℤ a) ≤ℤ (m *ℤ b)
times_at_most m a b p h =
    let apart : pos 0 ≤ℤ (b -ℤ a) = omega (arith, ints) in
    let e : m *ℤ (b -ℤ a) ≡ m *ℤ b -ℤ m *ℤ a =
    ring (env (m ∷ a ∷ b ∷ [])) (times (var 0) (plus (var 2) (minus (var 1)))) (plus (times (var 0) (var 2)) (minus (times (var 0) (var 1)))) refl in
    let n = mul_not_negative m (b -ℤ a) p apart in
    omega (arith, ints)

-- f is at most a positive multiple of g, one for all vectors
pub record IsBounded (f g : Vector → ℤ) : Type 0 where
  pub factor : ℤ
  pub positive : pos 0 <ℤ factor
  pub most : (v : Vector) → f v ≤ℤ (factor *ℤ g v)

-- what bounds a function that isn't negative isn't negative
pub bound_not_negative : (f g : Vector → ℤ) → IsBounded f g → (v : Vector) → pos 0 ≤ℤ f v → pos 0 ≤ℤ g v
bound_not_negative f g b v h =
    let m = b.most v in
    not_negative_factor b.factor (g v) b.positive (omega (arith, ints))

pub bounded_through : (f g h : Vector → ℤ) → IsBounded f g → IsBounded g h → IsBounded f h
bounded_through f g h a b = record {
  factor = a.factor *ℤ b.factor;
  positive = mul_positive a.factor b.factor a.positive b.positive;
  most = λ v.
      let p = a.positive in
      let x = a.most v in
      let y = times_at_most a.factor (g v) (b.factor *ℤ h v) (omega (arith, ints)) (b.most v) in
      let e = assoc a.factor b.factor (h v) in
      omega (arith, ints);
}

pub bounded_add : (f g h : Vector → ℤ) → IsBounded f h → IsBounded g h → IsBounded (λ v. f v +ℤ g v) h
bounded_add f g h a b = record {
  factor = a.factor +ℤ b.factor;
  positive = (let p = a.positive in let q = b.positive in omega (arith, ints));
  most = λ v.
      let x = a.most v in
      let y = b.most v in
      let e : (a.factor +ℤ b.factor) *ℤ h v ≡ a.factor *ℤ h v +ℤ b.factor *ℤ h v =
      ring (env (a.factor ∷ b.factor ∷ h v ∷ [])) (times (plus (var 0) (var 1)) (var 2)) (plus (times (var 0) (var 2)) (times (var 1) (var 2))) refl in
      omega (arith, ints);
}

bounded_sum : (n : ℕ) (f : ℕ → Vector → ℤ) (g : Vector → ℤ) → ((v : Vector) → pos 0 ≤ℤ g v) → ((i : ℕ) → i < n → IsBounded (f i) g)
    → IsBounded (λ v. sum_to n (λ i. f i v)) g
bounded_sum zero f g h b = record { factor = pos 1; positive = omega (arith, ints); most = λ v. mul_not_negative (pos 1) (g v) (omega (arith, ints)) (h v) }
bounded_sum (suc n) f g h b = bounded_add (λ v. sum_to n (λ i. f i v)) (f n) g (bounded_sum n f g h (λ i p. b i (omega arith))) (b n (omega arith))

-- ---- the sum of the squares of the entries
pub squares_not_negative : (d : ℕ) (v : Vector) → pos 0 ≤ℤ dot d v v
squares_not_negative d v = sum_not_negative d (λ i. v i *ℤ v i) (λ i p. square_not_negative (v i))

square_most : (d : ℕ) (v : Vector) (k : ℕ) → k < d → (v k *ℤ v k) ≤ℤ dot d v v
square_most zero v k below = absurd (omega arith)
square_most (suc d) v k below = elim (cases_lt k d) [
  | inl less ↦ (let a = square_most d v k less in let b = square_not_negative (v d) in omega (arith, ints))
  | inr more ↦ (let e : k ≡ d = omega arith in let a = squares_not_negative d v in rw e (omega (arith, ints)))
]

entry_most : (c x y n : ℤ) → (x *ℤ x) ≤ℤ n → (y *ℤ y) ≤ℤ n → (c *ℤ x *ℤ y) ≤ℤ ((c *ℤ c +ℤ pos 1) *ℤ n)
entry_most c x y n p q =
    let a = square_not_negative (c *ℤ x -ℤ y) in
    let e : (c *ℤ x -ℤ y) *ℤ (c *ℤ x -ℤ y) ≡ (c *ℤ c) *ℤ (x *ℤ x) +ℤ y *ℤ y -ℤ pos 2 *ℤ (c *ℤ x *ℤ y) =
    (let u = plus (times (var 0) (var 1)) (minus (var 2)) in
    ring (env (c ∷ x ∷ y ∷ [])) (times u u) (plus (plus (times (times (var 0) (var 0)) (times (var 1) (var 1))) (times (var 2) (var 2))) (minus (times (num (pos 2)) (times (times (var 0) (var 1)) (var 2))))) refl) in
    let b = times_at_most (c *ℤ c) (x *ℤ x) n (square_not_negative c) p in
    let s = square_not_negative x in
    let t = mul_not_negative (c *ℤ c) n (square_not_negative c) (omega (arith, ints)) in
    let f : (c *ℤ c +ℤ pos 1) *ℤ n ≡ (c *ℤ c) *ℤ n +ℤ n = ring (env (c ∷ n ∷ [])) (times (plus (times (var 0) (var 0)) (num (pos 1))) (var 1)) (plus (times (times (var 0) (var 0)) (var 1)) (var 1)) refl in
    omega (arith, ints)

entry_bounded : (d : ℕ) (c : ℤ) (i j : ℕ) → i < d → j < d → IsBounded (λ v. c *ℤ v i *ℤ v j) (λ v. dot d v v)
entry_bounded d c i j p q = record {
  factor = c *ℤ c +ℤ pos 1;
  positive = (let s = square_not_negative c in omega (arith, ints));
  most = λ v. entry_most c (v i) (v j) (dot d v v) (square_most d v i p) (square_most d v j q);
}

-- a form is at most a multiple of the sum of the squares
pub form_bounded : (d : ℕ) (B : Matrix) → IsBounded (form_at d B) (λ v. dot d v v)
form_bounded d B =
    bounded_sum d (λ i v. sum_to d (λ j. B i j *ℤ v i *ℤ v j)) (λ v. dot d v v) (squares_not_negative d) (λ i p.
    bounded_sum d (λ j v. B i j *ℤ v i *ℤ v j) (λ v. dot d v v) (squares_not_negative d) (λ j q. entry_bounded d (B i j) i j p q))
