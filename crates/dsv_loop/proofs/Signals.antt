-- What lists, their products and their sums make of a signal.
use Rattle.std.proofs.Common.{◌≡◌, ℕ, ◌+◌, ◌-◌, ◌<◌, ◌≤◌, List, [], ◌∷◌, ◌++◌, length, map, refl, sym, ap, ◌∙◌, arith}
use Rattle.std.proofs.Math.IntN.{ℤ, pos, negsuc, ◌+ℤ◌, ◌*ℤ◌, neg_ℤ}
use Rattle.std.proofs.lemmas.List.FromFn.{length-map-range_with_len, get_or-map-range_with_len, map-range_with_len_more}
use Rattle.std.specs.List.{range_with_len}
use Rattle.dsv_algebra.specs.Vectors.{Vector, vector_of, dot}
use Rattle.dsv_algebra.proofs.Dots.{dot_same, dot_swap}
use Rattle.dsv_algebra.proofs.Normaliser.{ring, env, var, num, plus, times, minus}
use Rattle.dsv_algebra.proofs.Sums.{sum_same, sum_add, sum_scale}
use Rattle.dsv_loop.specs.Loops.{product_at, product, sums}
use Rattle.dsv_loop.specs.Recursion.{filtered}
use Rattle.dsv_loop.proofs.Convolutions.{product_on}

-- ---- how long, and what is at a place
pub length-product : (fs gs : List ℤ) → length (product fs gs) ≡ length fs + length gs - 1
length-product fs gs = length-map-range_with_len (product_at fs gs) 0 (length fs + length gs - 1)

pub length-sums : (fs gs : List ℤ) → length (sums fs gs) ≡ length fs
length-sums fs gs = length-map-range_with_len (λ k. vector_of fs k +ℤ vector_of gs k) 0 (length fs)

pub product-at : (fs gs : List ℤ) (k : ℕ) → k < length fs + length gs - 1 → vector_of (product fs gs) k ≡ product_at fs gs k
product-at fs gs k h = get_or-map-range_with_len (product_at fs gs) 0 (length fs + length gs - 1) k k (pos 0) h (omega arith)

pub sums-at : (fs gs : List ℤ) (k : ℕ) → k < length fs → vector_of (sums fs gs) k ≡ vector_of fs k +ℤ vector_of gs k
sums-at fs gs k h = get_or-map-range_with_len (λ k. vector_of fs k +ℤ vector_of gs k) 0 (length fs) k k (pos 0) h (omega arith)

-- one more of a list that is made place by place
pub next_place : (f : ℕ → ℤ) (k : ℕ) (out new : List ℤ) (x : ℤ) → out ≡ map f (range_with_len 0 k) → x ≡ f k → new ≡ out ++ x ∷ [] → new ≡ map f (range_with_len 0 (k + 1))
next_place f k out new x before is e =
    e ∙ ap (λ y. out ++ y ∷ []) is ∙ ap (λ xs. xs ++ f k ∷ []) before ∙ sym (map-range_with_len_more f 0 k k (omega arith))

-- ---- one list
pub filtered-same : (cs : List ℤ) (x z : Vector) (t : ℕ) → ((i : ℕ) → i < length cs → x (t + i) ≡ z (t + i)) → filtered cs x t ≡ filtered cs z t
filtered-same cs x z t h = dot_same (length cs) (vector_of cs) (λ i. x (t + i)) (λ i. z (t + i)) h

negated : (a : ℤ) → negsuc 0 *ℤ a ≡ neg_ℤ a
negated a = ring (env (a ∷ [])) (times (num (negsuc 0)) (var 0)) (minus (var 0)) refl

moved_sign : (a b : ℤ) → a *ℤ neg_ℤ b ≡ negsuc 0 *ℤ (a *ℤ b)
moved_sign a b = ring (env (a ∷ b ∷ [])) (times (var 0) (minus (var 1))) (times (num (negsuc 0)) (times (var 0) (var 1))) refl

-- a signal with its sign changed
pub filtered-neg : (cs : List ℤ) (y : Vector) (t : ℕ) → filtered cs (λ i. neg_ℤ (y i)) t ≡ neg_ℤ (filtered cs y t)
filtered-neg cs y t =
    sum_same (length cs) (λ k. vector_of cs k *ℤ neg_ℤ (y (t + k))) (λ k. negsuc 0 *ℤ (vector_of cs k *ℤ y (t + k))) (λ k h. moved_sign (vector_of cs k) (y (t + k)))
    ∙ sum_scale (length cs) (negsuc 0) (λ k. vector_of cs k *ℤ y (t + k))
    ∙ negated (filtered cs y t)

-- ---- one after another
-- in either order
pub filtered-swap : (fs gs : List ℤ) (v : Vector) (t : ℕ) → filtered fs (filtered gs v) t ≡ filtered gs (filtered fs v) t
filtered-swap fs gs v t =
    dot_swap (length fs) (length gs) (vector_of fs) (vector_of gs) (λ i j. v (t + i + j))
    ∙ dot_same (length gs) (vector_of gs) (λ j. dot (length fs) (vector_of fs) (λ i. v (t + i + j))) (λ j. filtered fs v (t + j)) (λ j h.
    dot_same (length fs) (vector_of fs) (λ i. v (t + i + j)) (λ i. v (t + j + i)) (λ i g. let e : t + i + j ≡ t + j + i = omega arith in ap v e))

both_places : (fs gs : List ℤ) (v : Vector) (t : ℕ) → dot (length fs) (vector_of fs) (λ i. dot (length gs) (vector_of gs) (λ j. v (t + (i + j)))) ≡ filtered fs (filtered gs v) t
both_places fs gs v t =
    dot_same (length fs) (vector_of fs) (λ i. dot (length gs) (vector_of gs) (λ j. v (t + (i + j)))) (λ i. filtered gs v (t + i)) (λ i h.
    dot_same (length gs) (vector_of gs) (λ j. v (t + (i + j))) (λ j. v (t + i + j)) (λ j g. let e : t + (i + j) ≡ t + i + j = omega arith in ap v e))

-- a product of lists: the one on what the other makes of the signal
pub filtered-product : (fs gs : List ℤ) (v : Vector) (t : ℕ) → 1 ≤ length gs → filtered (product fs gs) v t ≡ filtered fs (filtered gs v) t
filtered-product fs gs v t some =
    let n = length fs + length gs - 1 in
    let x : Vector = λ k. v (t + k) in
    ap (λ m. dot m (vector_of (product fs gs)) x) (length-product fs gs)
    ∙ sum_same n (λ k. vector_of (product fs gs) k *ℤ x k) (λ k. product_at fs gs k *ℤ x k) (λ k h. ap (λ z. z *ℤ x k) (product-at fs gs k h))
    ∙ product_on fs gs n x (omega arith) some
    ∙ both_places fs gs v t

-- ---- sums
spread : (a b x : ℤ) → (a +ℤ b) *ℤ x ≡ a *ℤ x +ℤ b *ℤ x
spread a b x = let u = var 0 in let v = var 1 in let w = var 2 in ring (env (a ∷ b ∷ x ∷ [])) (times (plus u v) w) (plus (times u w) (times v w)) refl

pub filtered-sums : (fs gs : List ℤ) (v : Vector) (t : ℕ) → length gs ≡ length fs → filtered (sums fs gs) v t ≡ filtered fs v t +ℤ filtered gs v t
filtered-sums fs gs v t one =
    let n = length fs in
    let F = vector_of fs in
    let G = vector_of gs in
    let x : Vector = λ k. v (t + k) in
    ap (λ m. dot m (vector_of (sums fs gs)) x) (length-sums fs gs)
    ∙ sum_same n (λ k. vector_of (sums fs gs) k *ℤ x k) (λ k. F k *ℤ x k +ℤ G k *ℤ x k) (λ k h. ap (λ z. z *ℤ x k) (sums-at fs gs k h) ∙ spread (F k) (G k) (x k))
    ∙ sum_add n (λ k. F k *ℤ x k) (λ k. G k *ℤ x k)
    ∙ ap (λ m. dot n F x +ℤ dot m G x) (sym one)
