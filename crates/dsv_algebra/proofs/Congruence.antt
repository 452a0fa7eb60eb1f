-- A form at the image of a vector under a matrix.
use Rattle.std.proofs.Common.{◌≡◌, ℕ, zero, suc, ◌<◌, [], ◌∷◌, refl, sym, ap, ◌∙◌}
use Rattle.std.proofs.Math.IntN.{ℤ, ◌*ℤ◌}
use Rattle.dsv_algebra.proofs.Normaliser.{ring, env, var, times}
use Rattle.dsv_algebra.specs.Vectors.{Vector, Matrix, sum_to, form_at, dot, congruence}
use Rattle.dsv_algebra.proofs.Sums.{sum_same, sum_scale, sum_swap, form_add, form_nought}

pub scale_left : (d : ℕ) (f : ℕ → ℤ) (a : ℤ) → a *ℤ sum_to d f ≡ sum_to d (λ k. a *ℤ f k)
scale_left d f a = sym (sum_scale d a f)

pub term_out : (d : ℕ) (p x : ℤ) (g : ℕ → ℤ) (v : Vector) → p *ℤ x *ℤ dot d g v ≡ sum_to d (λ l. p *ℤ x *ℤ g l *ℤ v l)
term_out d p x g v = scale_left d (λ l. g l *ℤ v l) (p *ℤ x) ∙ sum_same d (λ l. p *ℤ x *ℤ (g l *ℤ v l)) (λ l. p *ℤ x *ℤ g l *ℤ v l)
    (λ l q. ring (env (p ∷ x ∷ g l ∷ v l ∷ [])) (times (times (var 0) (var 1)) (times (var 2) (var 3))) (times (times (times (var 0) (var 1)) (var 2)) (var 3)) refl)

-- one entry's part, over all pairs of places
pub entry_out : (d : ℕ) (p : ℤ) (f g : ℕ → ℤ) (v : Vector) → p *ℤ dot d f v *ℤ dot d g v ≡ form_at d (λ k l. p *ℤ f k *ℤ g l) v
entry_out d p f g v =
    term_out d p (dot d f v) g v
    ∙ sum_same d (λ l. p *ℤ dot d f v *ℤ g l *ℤ v l) (λ l. sum_to d (λ k. p *ℤ f k *ℤ g l *ℤ v k *ℤ v l))
    (λ l q. first (p) (g l) (v l))
    ∙ sum_swap d d (λ l k. p *ℤ f k *ℤ g l *ℤ v k *ℤ v l)
  where
    first : (p b y : ℤ) → p *ℤ dot d f v *ℤ b *ℤ y ≡ sum_to d (λ k. p *ℤ f k *ℤ b *ℤ v k *ℤ y)
    first p b y =
        ring (env (p ∷ dot d f v ∷ b ∷ y ∷ [])) (times (times (times (var 0) (var 1)) (var 2)) (var 3)) (times (times (times (var 0) (var 2)) (var 3)) (var 1)) refl
        ∙ scale_left d (λ k. f k *ℤ v k) (p *ℤ b *ℤ y)
        ∙ sum_same d (λ k. p *ℤ b *ℤ y *ℤ (f k *ℤ v k)) (λ k. p *ℤ f k *ℤ b *ℤ v k *ℤ y)
        (λ k q. ring (env (p ∷ b ∷ y ∷ f k ∷ v k ∷ [])) (times (times (times (var 0) (var 1)) (var 2)) (times (var 3) (var 4))) (times (times (times (times (var 0) (var 3)) (var 1)) (var 4)) (var 2)) refl)

pub form_sum : (d n : ℕ) (A : ℕ → Matrix) (v : Vector) → sum_to n (λ k. form_at d (A k) v) ≡ form_at d (λ i j. sum_to n (λ k. A k i j)) v
form_sum d zero A v = sym (form_nought d v)
form_sum d (suc n) A v = rw (form_sum d n A v) (sym (form_add d (λ i j. sum_to n (λ k. A k i j)) (A n) v))

-- the form P at C v is the form C^T P C at v
pub form_congruence : (d : ℕ) (P C : Matrix) (v : Vector) → form_at d P (λ i. dot d (C i) v) ≡ form_at d (congruence d P C) v
form_congruence d P C v =
    sum_same d (λ i. sum_to d (λ j. P i j *ℤ dot d (C i) v *ℤ dot d (C j) v)) (λ i. form_at d (λ k l. sum_to d (λ j. P i j *ℤ C i k *ℤ C j l)) v)
    (λ i p. sum_same d (λ j. P i j *ℤ dot d (C i) v *ℤ dot d (C j) v) (λ j. form_at d (λ k l. P i j *ℤ C i k *ℤ C j l) v) (λ j q. entry_out d (P i j) (C i) (C j) v)
    ∙ form_sum d d (λ j k l. P i j *ℤ C i k *ℤ C j l) v)
    ∙ form_sum d d (λ i k l. sum_to d (λ j. P i j *ℤ C i k *ℤ C j l)) v

-- the matrix C^T P C of a symmetric form is symmetric
pub congruence-turned : (d : ℕ) (P C : Matrix) (k l : ℕ) → ((i j : ℕ) → i < d → j < d → P i j ≡ P j i) → congruence d P C k l ≡ congruence d P C l k
congruence-turned d P C k l h =
    sum_swap d d (λ i j. P i j *ℤ C i k *ℤ C j l)
    ∙ sum_same d (λ j. sum_to d (λ i. P i j *ℤ C i k *ℤ C j l)) (λ j. sum_to d (λ i. P j i *ℤ C j l *ℤ C i k))
    (λ j b. sum_same d (λ i. P i j *ℤ C i k *ℤ C j l) (λ i. P j i *ℤ C j l *ℤ C i k)
    (λ i a. ap (λ p. p *ℤ C i k *ℤ C j l) (h i j a b)
    ∙ ring (env (P j i ∷ C i k ∷ C j l ∷ [])) (times (times (var 0) (var 1)) (var 2)) (times (times (var 0) (var 2)) (var 1)) refl))
