-- Rows times the images of vectors, and forms at images, for matrices that aren't square.
use Rattle.std.proofs.Common.{◌≡◌, ℕ, ◌<◌, [], ◌∷◌, refl, sym, ◌∙◌}
use Rattle.std.proofs.Math.IntN.{ℤ, pos, ◌*ℤ◌, *ℤ_comm}
use Rattle.dsv_algebra.specs.Vectors.{Vector, Matrix, sum_to, form_at, dot}
use Rattle.dsv_algebra.proofs.Normaliser.{ring, env, var, num, times}
use Rattle.dsv_algebra.proofs.Sums.{sum_same, sum_scale, sum_swap, sum_none}
use Rattle.dsv_algebra.proofs.Congruence.{form_sum}

-- the product of a matrix and a vector of m places
abbrev pub image : ℕ → Matrix → Vector → Vector
image m B s l = sum_to m (λ k. B l k *ℤ s k)

-- a row of d places times an image
pub row_image : (d m : ℕ) (r s : Vector) (B : Matrix) → dot d r (image m B s) ≡ sum_to m (λ k. sum_to d (λ l. r l *ℤ B l k) *ℤ s k)
row_image d m r s B =
    sum_same d (λ l. r l *ℤ image m B s l) (λ l. sum_to m (λ k. r l *ℤ B l k *ℤ s k))
    (λ l p. sym (sum_scale m (r l) (λ k. B l k *ℤ s k))
    ∙ sum_same m (λ k. r l *ℤ (B l k *ℤ s k)) (λ k. r l *ℤ B l k *ℤ s k) (λ k b. ring (env (r l ∷ B l k ∷ s k ∷ [])) (times (var 0) (times (var 1) (var 2))) (times (times (var 0) (var 1)) (var 2)) refl))
    ∙ sum_swap d m (λ l k. r l *ℤ B l k *ℤ s k)
    ∙ sum_same m (λ k. sum_to d (λ l. r l *ℤ B l k *ℤ s k)) (λ k. sum_to d (λ l. r l *ℤ B l k) *ℤ s k)
    (λ k b. sum_same d (λ l. r l *ℤ B l k *ℤ s k) (λ l. s k *ℤ (r l *ℤ B l k)) (λ l p. *ℤ_comm (r l *ℤ B l k) (s k))
    ∙ sum_scale d (s k) (λ l. r l *ℤ B l k) ∙ *ℤ_comm (s k) (sum_to d (λ l. r l *ℤ B l k)))

-- a row of zeros times a vector
pub none_times : (d : ℕ) (r v : Vector) → ((l : ℕ) → l < d → r l ≡ pos 0) → dot d r v ≡ pos 0
none_times d r v h =
    sum_same d (λ l. r l *ℤ v l) (λ l. pos 0) (λ l b. rw (h l b) (ring (env (v l ∷ [])) (times (num (pos 0)) (var 0)) (num (pos 0)) refl))
    ∙ sum_none d

-- ---- a form at an image
term_out : (d : ℕ) (p x : ℤ) (g v : Vector) → p *ℤ x *ℤ dot d g v ≡ sum_to d (λ l. p *ℤ x *ℤ g l *ℤ v l)
term_out d p x g v =
    sym (sum_scale d (p *ℤ x) (λ l. g l *ℤ v l))
    ∙ sum_same d (λ l. p *ℤ x *ℤ (g l *ℤ v l)) (λ l. p *ℤ x *ℤ g l *ℤ v l)
    (λ l q. ring (env (p ∷ x ∷ g l ∷ v l ∷ [])) (times (times (var 0) (var 1)) (times (var 2) (var 3))) (times (times (times (var 0) (var 1)) (var 2)) (var 3)) refl)

row_out : (d : ℕ) (p b y : ℤ) (f v : Vector) → p *ℤ dot d f v *ℤ b *ℤ y ≡ sum_to d (λ k. p *ℤ f k *ℤ b *ℤ v k *ℤ y)
row_out d p b y f v =
    ring (env (p ∷ dot d f v ∷ b ∷ y ∷ [])) (times (times (times (var 0) (var 1)) (var 2)) (var 3)) (times (times (times (var 0) (var 2)) (var 3)) (var 1)) refl
    ∙ sym (sum_scale d (p *ℤ b *ℤ y) (λ k. f k *ℤ v k))
    ∙ sum_same d (λ k. p *ℤ b *ℤ y *ℤ (f k *ℤ v k)) (λ k. p *ℤ f k *ℤ b *ℤ v k *ℤ y)
    (λ k q. ring (env (p ∷ b ∷ y ∷ f k ∷ v k ∷ [])) (times (times (times (var 0) (var 1)) (var 2)) (times (var 3) (var 4))) (times (times (times (times (var 0) (var 3)) (var 1)) (var 4)) (var 2)) refl)

-- one entry's part, over all pairs of places
entry_out : (d : ℕ) (p : ℤ) (f g v : Vector) → p *ℤ dot d f v *ℤ dot d g v ≡ form_at d (λ k l. p *ℤ f k *ℤ g l) v
entry_out d p f g v =
    term_out d p (dot d f v) g v
    ∙ sum_same d (λ l. p *ℤ dot d f v *ℤ g l *ℤ v l) (λ l. sum_to d (λ k. p *ℤ f k *ℤ g l *ℤ v k *ℤ v l)) (λ l q. row_out d p (g l) (v l) f v)
    ∙ sum_swap d d (λ l k. p *ℤ f k *ℤ g l *ℤ v k *ℤ v l)

-- the form on d places that is the form P of m places at m rows times the vector
abbrev pub image_form : ℕ → Matrix → Matrix → Matrix
image_form m P C k l = sum_to m (λ i. sum_to m (λ j. P i j *ℤ C i k *ℤ C j l))

pub form_image : (d m : ℕ) (P C : Matrix) (v : Vector) → form_at m P (λ i. dot d (C i) v) ≡ form_at d (image_form m P C) v
form_image d m P C v =
    sum_same m (λ i. sum_to m (λ j. P i j *ℤ dot d (C i) v *ℤ dot d (C j) v)) (λ i. form_at d (λ k l. sum_to m (λ j. P i j *ℤ C i k *ℤ C j l)) v)
    (λ i p. sum_same m (λ j. P i j *ℤ dot d (C i) v *ℤ dot d (C j) v) (λ j. form_at d (λ k l. P i j *ℤ C i k *ℤ C j l) v) (λ j q. entry_out d (P i j) (C i) (C j) v)
    ∙ form_sum d m (λ j k l. P i j *ℤ C i k *ℤ C j l) v)
    ∙ form_sum d m (λ i k l. sum_to m (λ j. P i j *ℤ C i k *ℤ C j l)) v
