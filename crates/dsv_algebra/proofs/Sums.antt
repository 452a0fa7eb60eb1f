-- Finite sums of integers, and quadratic forms as functions of their matrices.
use Rattle.std.proofs.Common.{◌≡◌, ◌≢◌, ℕ, zero, suc, ◌<◌, [], ◌∷◌, refl, sym, ap, ◌∙◌, arith}
use Rattle.std.proofs.Math.IntN.{ℤ, pos, negsuc, ◌+ℤ◌, ◌*ℤ◌, neg_ℤ, +ℤ_assoc, +ℤ_idl, +ℤ_idr}
use Rattle.std.proofs.lemmas.Int.{ints}
use Rattle.std.proofs.Common.{inl, inr}
use Rattle.std.proofs.lemmas.Bool.{cases_lt}
use Rattle.std.proofs.Math.IntN.{ℤ_discrete}
use lib.Signed.{◌<ℤ◌, ◌≤ℤ◌}
use Rattle.dsv_algebra.specs.Vectors.{Vector, Matrix, sum_to, form_at, dot}
use Rattle.dsv_algebra.specs.Squares.{square, squares}
use Rattle.dsv_algebra.proofs.Normaliser.{ring, env, var, num, plus, times, minus}

-- equal terms have equal sums
pub sum_same : (d : ℕ) (f g : ℕ → ℤ) → ((i : ℕ) → i < d → f i ≡ g i) → sum_to d f ≡ sum_to d g
sum_same zero f g h = refl
sum_same (suc d) f g h = rw (sum_same d f g (λ i p. h i (omega arith)), h d (omega arith)) refl

four : (a b c e : ℤ) → (a +ℤ b) +ℤ (c +ℤ e) ≡ (a +ℤ c) +ℤ (b +ℤ e)
four a b c e = omega (arith, ints)

pub sum_add : (d : ℕ) (f g : ℕ → ℤ) → sum_to d (λ i. f i +ℤ g i) ≡ sum_to d f +ℤ sum_to d g
sum_add zero f g = refl
sum_add (suc d) f g = rw (sum_add d f g) (four (sum_to d f) (sum_to d g) (f d) (g d))

spread : (c a b : ℤ) → c *ℤ a +ℤ c *ℤ b ≡ c *ℤ (a +ℤ b)
spread c a b = let x = var 0 in let y = var 1 in let z = var 2 in ring (env (c ∷ a ∷ b ∷ [])) (plus (times x y) (times x z)) (times x (plus y z)) refl

none : (c : ℤ) → pos 0 ≡ c *ℤ pos 0
none c = ring (env (c ∷ [])) (num (pos 0)) (times (var 0) (num (pos 0))) refl

pub sum_scale : (d : ℕ) (c : ℤ) (f : ℕ → ℤ) → sum_to d (λ i. c *ℤ f i) ≡ c *ℤ sum_to d f
sum_scale zero c f = none c
sum_scale (suc d) c f = rw (sum_scale d c f) (spread c (sum_to d f) (f d))

pub sum_none : (n : ℕ) → sum_to n (λ j. pos 0) ≡ pos 0
sum_none zero = refl
sum_none (suc n) = rw (sum_none n) refl

pub sum_swap : (m n : ℕ) (f : ℕ → ℕ → ℤ) → sum_to m (λ i. sum_to n (λ j. f i j)) ≡ sum_to n (λ j. sum_to m (λ i. f i j))
sum_swap zero n f = sym (sum_none n)
sum_swap (suc m) n f = rw (sum_swap m n f) (sym (sum_add n (λ j. sum_to m (λ i. f i j)) (λ j. f m j)))

-- a form is linear in its matrix
pub form_same : (d : ℕ) (A B : Matrix) (v : Vector) → ((i j : ℕ) → i < d → j < d → A i j ≡ B i j) → form_at d A v ≡ form_at d B v
form_same d A B v h = sum_same d (λ i. sum_to d (λ j. A i j *ℤ v i *ℤ v j)) (λ i. sum_to d (λ j. B i j *ℤ v i *ℤ v j))
    (λ i p. sum_same d (λ j. A i j *ℤ v i *ℤ v j) (λ j. B i j *ℤ v i *ℤ v j) (λ j q. ap (λ t. t *ℤ v i *ℤ v j) (h i j p q)))

term_add : (a b x y : ℤ) → (a +ℤ b) *ℤ x *ℤ y ≡ a *ℤ x *ℤ y +ℤ b *ℤ x *ℤ y
term_add a b x y = let p = var 0 in let q = var 1 in let u = var 2 in let v = var 3 in
    ring (env (a ∷ b ∷ x ∷ y ∷ [])) (times (times (plus p q) u) v) (plus (times (times p u) v) (times (times q u) v)) refl

pub form_add : (d : ℕ) (A B : Matrix) (v : Vector) → form_at d (λ i j. A i j +ℤ B i j) v ≡ form_at d A v +ℤ form_at d B v
form_add d A B v =
    sum_same d (λ i. sum_to d (λ j. (A i j +ℤ B i j) *ℤ v i *ℤ v j)) (λ i. sum_to d (λ j. A i j *ℤ v i *ℤ v j) +ℤ sum_to d (λ j. B i j *ℤ v i *ℤ v j))
    (λ i p. sum_same d (λ j. (A i j +ℤ B i j) *ℤ v i *ℤ v j) (λ j. A i j *ℤ v i *ℤ v j +ℤ B i j *ℤ v i *ℤ v j) (λ j q. term_add (A i j) (B i j) (v i) (v j))
    ∙ sum_add d (λ j. A i j *ℤ v i *ℤ v j) (λ j. B i j *ℤ v i *ℤ v j))
    ∙ sum_add d (λ i. sum_to d (λ j. A i j *ℤ v i *ℤ v j)) (λ i. sum_to d (λ j. B i j *ℤ v i *ℤ v j))

term_scale : (c a x y : ℤ) → c *ℤ a *ℤ x *ℤ y ≡ c *ℤ (a *ℤ x *ℤ y)
term_scale c a x y = let p = var 0 in let q = var 1 in let u = var 2 in let v = var 3 in
    ring (env (c ∷ a ∷ x ∷ y ∷ [])) (times (times (times p q) u) v) (times p (times (times q u) v)) refl

pub form_scale : (d : ℕ) (c : ℤ) (A : Matrix) (v : Vector) → form_at d (λ i j. c *ℤ A i j) v ≡ c *ℤ form_at d A v
form_scale d c A v =
    sum_same d (λ i. sum_to d (λ j. c *ℤ A i j *ℤ v i *ℤ v j)) (λ i. c *ℤ sum_to d (λ j. A i j *ℤ v i *ℤ v j))
    (λ i p. sum_same d (λ j. c *ℤ A i j *ℤ v i *ℤ v j) (λ j. c *ℤ (A i j *ℤ v i *ℤ v j)) (λ j q. term_scale c (A i j) (v i) (v j))
    ∙ sum_scale d c (λ j. A i j *ℤ v i *ℤ v j))
    ∙ sum_scale d c (λ i. sum_to d (λ j. A i j *ℤ v i *ℤ v j))

term_square : (w a b x y : ℤ) → w *ℤ a *ℤ b *ℤ x *ℤ y ≡ (w *ℤ (a *ℤ x)) *ℤ (b *ℤ y)
term_square w a b x y = let p = var 0 in let q = var 1 in let s = var 2 in let u = var 3 in let v = var 4 in
    ring (env (w ∷ a ∷ b ∷ x ∷ y ∷ [])) (times (times (times (times p q) s) u) v) (times (times p (times q u)) (times s v)) refl

turn : (w a e : ℤ) → w *ℤ a *ℤ e ≡ (w *ℤ e) *ℤ a
turn w a e = let p = var 0 in let q = var 1 in let s = var 2 in ring (env (w ∷ a ∷ e ∷ [])) (times (times p q) s) (times (times p s) q) refl

pub form_square : (d : ℕ) (w : ℤ) (r v : Vector) → form_at d (square w r) v ≡ w *ℤ dot d r v *ℤ dot d r v
form_square d w r v =
    sum_same d (λ i. sum_to d (λ j. w *ℤ r i *ℤ r j *ℤ v i *ℤ v j)) (λ i. (w *ℤ dot d r v) *ℤ (r i *ℤ v i))
    (λ i p. sum_same d (λ j. w *ℤ r i *ℤ r j *ℤ v i *ℤ v j) (λ j. (w *ℤ (r i *ℤ v i)) *ℤ (r j *ℤ v j)) (λ j q. term_square w (r i) (r j) (v i) (v j))
    ∙ sum_scale d (w *ℤ (r i *ℤ v i)) (λ j. r j *ℤ v j) ∙ turn w (r i *ℤ v i) (dot d r v))
    ∙ sum_scale d (w *ℤ dot d r v) (λ i. r i *ℤ v i)

term_none : (x y : ℤ) → pos 0 *ℤ x *ℤ y ≡ pos 0
term_none x y = ring (env (x ∷ y ∷ [])) (times (times (num (pos 0)) (var 0)) (var 1)) (num (pos 0)) refl

pub form_nought : (d : ℕ) (v : Vector) → form_at d (λ i j. pos 0) v ≡ pos 0
form_nought d v =
    sum_same d (λ i. sum_to d (λ j. pos 0 *ℤ v i *ℤ v j)) (λ i. pos 0)
    (λ i p. sum_same d (λ j. pos 0 *ℤ v i *ℤ v j) (λ j. pos 0) (λ j q. term_none (v i) (v j)) ∙ sum_none d)
    ∙ sum_none d

pub form_squares : (d n : ℕ) (w : Vector) (rows : ℕ → Vector) (v : Vector)
    → form_at d (squares n w rows) v ≡ sum_to n (λ k. w k *ℤ dot d (rows k) v *ℤ dot d (rows k) v)
form_squares d zero w rows v = form_nought d v
form_squares d (suc n) w rows v =
    form_add d (squares n w rows) (square (w n) (rows n)) v ∙ rw (form_squares d n w rows v, form_square d (w n) (rows n) v) refl

-- m times a form is its squares and its rest
pub form_by_squares : (d n : ℕ) (m : ℤ) (T rest : Matrix) (w : Vector) (rows : ℕ → Vector) (v : Vector)
    → ((i j : ℕ) → i < d → j < d → m *ℤ T i j ≡ squares n w rows i j +ℤ rest i j)
    → m *ℤ form_at d T v ≡ sum_to n (λ k. w k *ℤ dot d (rows k) v *ℤ dot d (rows k) v) +ℤ form_at d rest v
form_by_squares d n m T rest w rows v h =
    sym (form_scale d m T v)
    ∙ form_same d (λ i j. m *ℤ T i j) (λ i j. squares n w rows i j +ℤ rest i j) v h
    ∙ form_add d (squares n w rows) rest v
    ∙ rw (form_squares d n w rows v) refl

-- ---- signs
pub sum_not_negative : (d : ℕ) (f : ℕ → ℤ) → ((i : ℕ) → i < d → pos 0 ≤ℤ f i) → pos 0 ≤ℤ sum_to d f
sum_not_negative zero f h = omega (arith, ints)
sum_not_negative (suc d) f h =
    let a = sum_not_negative d f (λ i p. h i (omega arith)) in
    let b = h d (omega arith) in omega (arith, ints)

pub sum_positive : (d : ℕ) (f : ℕ → ℤ) (k : ℕ) → k < d → ((i : ℕ) → i < d → pos 0 ≤ℤ f i) → pos 0 <ℤ f k → pos 0 <ℤ sum_to d f
sum_positive zero f k below h p = absurd (omega arith)
sum_positive (suc d) f k below h p = elim (cases_lt k d) [
  | inl less ↦ (let a = sum_positive d f k less (λ i q. h i (omega arith)) p in let b = h d (omega arith) in omega (arith, ints))
  | inr more ↦ (let e : k ≡ d = omega arith in let a = sum_not_negative d f (λ i q. h i (omega arith)) in let b = rw e at p in omega (arith, ints))
]

-- the last place that isn't 0
pub record Last (d : ℕ) (v : Vector) : Type 0 where
  pub place : ℕ
  pub below : place < d
  pub apart : v place ≢ pos 0
  pub after : (j : ℕ) → place < j → j < d → v j ≡ pos 0

below_last : (d : ℕ) (v : Vector) (i : ℕ) → i < suc d → v i ≢ pos 0 → v d ≡ pos 0 → i < d
below_last d v i p n e = elim (cases_lt i d) [ inl less ↦ less | inr more ↦ (let same : i ≡ d = omega arith in absurd (n (rw same e))) ]

after_more : (d : ℕ) (v : Vector) (k : ℕ) → ((j : ℕ) → k < j → j < d → v j ≡ pos 0) → v d ≡ pos 0 → (j : ℕ) → k < j → j < suc d → v j ≡ pos 0
after_more d v k h e j q r = elim (cases_lt j d) [ inl less ↦ h j q less | inr more ↦ (let same : j ≡ d = omega arith in rw same e) ]

pub last_of : (d : ℕ) (v : Vector) (i : ℕ) → i < d → v i ≢ pos 0 → Last d v
last_of zero v i p n = absurd (omega arith)
last_of (suc d) v i p n = elim (ℤ_discrete (v d) (pos 0)) [
  | yes e ↦ (let less : i < d = below_last d v i p n e in let l = last_of d v i less n in
      record { place = l.place; below = omega (arith, l.below); apart = l.apart; after = λ j q r. after_more d v l.place l.after e j q r })
  | no m ↦ record { place = d; below = omega arith; apart = m; after = λ j q r. absurd (omega arith) }
]

-- a sum with one term that isn't 0
pub sum_one : (d : ℕ) (f : ℕ → ℤ) (k : ℕ) → k < d → ((j : ℕ) → j < d → j ≢ k → f j ≡ pos 0) → sum_to d f ≡ f k
sum_one zero f k below h = absurd (omega arith)
sum_one (suc d) f k below h = elim (cases_lt k d) [
  | inl less ↦ (let a = sum_one d f k less (λ j p n. h j (omega arith) n) in
      let b : f d ≡ pos 0 = h d (omega arith) (λ e. absurd (omega arith)) in rw (a, b) (+ℤ_idr (f k)))
  | inr more ↦ (let e : k ≡ d = omega arith in
      let a : sum_to d f ≡ pos 0 = sum_same d f (λ j. pos 0) (λ j p. h j (omega arith) (λ q. absurd (omega arith))) ∙ sum_none d in
      rw (a, e) (+ℤ_idl (f d)))
]

negated : (x : ℤ) → neg_ℤ x ≡ negsuc 0 *ℤ x
negated x = ring (env (x ∷ [])) (minus (var 0)) (times (num (negsuc 0)) (var 0)) refl

pub form_neg : (d : ℕ) (A : Matrix) (v : Vector) → form_at d (λ i j. neg_ℤ (A i j)) v ≡ neg_ℤ (form_at d A v)
form_neg d A v =
    form_same d (λ i j. neg_ℤ (A i j)) (λ i j. negsuc 0 *ℤ A i j) v (λ i j p q. negated (A i j))
    ∙ form_scale d (negsuc 0) A v
    ∙ sym (negated (form_at d A v))

-- a sum's first term before the others
pub sum_first : (d : ℕ) (f : ℕ → ℤ) → sum_to (suc d) f ≡ f 0 +ℤ sum_to d (λ i. f (suc i))
sum_first zero f = omega (arith, ints)
sum_first (suc d) f = rw (sum_first d f) (+ℤ_assoc (f 0) (sum_to d (λ i. f (suc i))) (f (suc d)))
