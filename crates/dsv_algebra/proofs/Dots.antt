-- Sums of products.
use Rattle.std.proofs.Common.{◌≡◌, ℕ, suc, ◌<◌, List, ◌∷◌, [], length, refl, sym, ap, ◌∙◌}
use Rattle.std.proofs.Math.IntN.{ℤ, ◌+ℤ◌, ◌*ℤ◌}
use Rattle.dsv_algebra.specs.Vectors.{Vector, vector_of, sum_to, dot}
use Rattle.dsv_algebra.proofs.Normaliser.{ring, env, var, times}
use Rattle.dsv_algebra.proofs.Sums.{sum_same, sum_scale, sum_swap, sum_first}

pub dot_same : (n : ℕ) (F x z : Vector) → ((i : ℕ) → i < n → x i ≡ z i) → dot n F x ≡ dot n F z
dot_same n F x z h = sum_same n (λ i. F i *ℤ x i) (λ i. F i *ℤ z i) (λ i p. ap (λ r. F i *ℤ r) (h i p))

swapped : (a b e : ℤ) → a *ℤ (b *ℤ e) ≡ b *ℤ (a *ℤ e)
swapped a b e = let u = var 0 in let v = var 1 in let w = var 2 in ring (env (a ∷ b ∷ e ∷ [])) (times u (times v w)) (times v (times u w)) refl

pub dot_scale : (m : ℕ) (G : Vector) (c : ℤ) (x : Vector) → c *ℤ dot m G x ≡ dot m G (λ j. c *ℤ x j)
dot_scale m G c x =
    sym (sum_scale m c (λ j. G j *ℤ x j)) ∙ sum_same m (λ j. c *ℤ (G j *ℤ x j)) (λ j. G j *ℤ (c *ℤ x j)) (λ j h. swapped c (G j) (x j))

pub dot_swap : (n m : ℕ) (F G : Vector) (x : ℕ → ℕ → ℤ) → dot n F (λ i. dot m G (λ j. x i j)) ≡ dot m G (λ j. dot n F (λ i. x i j))
dot_swap n m F G x =
    sum_same n (λ i. F i *ℤ dot m G (λ j. x i j)) (λ i. sum_to m (λ j. G j *ℤ (F i *ℤ x i j))) (λ i h. dot_scale m G (F i) (λ j. x i j))
    ∙ sum_swap n m (λ i j. G j *ℤ (F i *ℤ x i j))
    ∙ sum_same m (λ j. sum_to n (λ i. G j *ℤ (F i *ℤ x i j))) (λ j. G j *ℤ dot n F (λ i. x i j)) (λ j h. sum_scale n (G j) (λ i. F i *ℤ x i j))

-- a list's first number before the others
pub dot_first : (c : ℤ) (cs : List ℤ) (x : Vector) → dot (length (c ∷ cs)) (vector_of (c ∷ cs)) x ≡ c *ℤ x 0 +ℤ dot (length cs) (vector_of cs) (λ i. x (suc i))
dot_first c cs x = sum_first (length cs) (λ i. vector_of (c ∷ cs) i *ℤ x i)
