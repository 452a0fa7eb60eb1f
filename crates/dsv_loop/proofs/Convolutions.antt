-- Products of polynomials as sums over i + j = k, and what they make of a signal.
use Rattle.std.proofs.Common.{◌≡◌, ℕ, zero, suc, ◌+◌, ◌-◌, ◌<◌, ◌≤◌, List, [], ◌∷◌, length, refl, sym, ap, ◌∙◌, arith}
use Rattle.std.proofs.Math.IntN.{ℤ, pos, ◌+ℤ◌, ◌*ℤ◌, +ℤ_idr}
use Rattle.std.proofs.Math.ListN.{get_or-eq_default}
use Rattle.std.proofs.lemmas.Int.{ints}
use Rattle.dsv_algebra.specs.Vectors.{Vector, vector_of, sum_to, dot}
use Rattle.dsv_algebra.proofs.Normaliser.{ring, env, var, num, times}
use Rattle.dsv_algebra.proofs.Sums.{sum_same, sum_add, sum_scale, sum_none}

-- ---- sums over a triangle
-- the terms on the line i + j = n
abbrev line : (ℕ → ℕ → ℤ) → ℕ → ℕ → ℤ
line f n i = f i (n - i)

moved_nought : (a b d : ℤ) → (a +ℤ b) +ℤ (pos 0 +ℤ d) ≡ a +ℤ (b +ℤ d)
moved_nought a b d = omega (arith, ints)

row_more : (n : ℕ) (f : ℕ → ℕ → ℤ) (i : ℕ) → i < n → sum_to (suc n - i) (f i) ≡ sum_to (n - i) (f i) +ℤ line f n i
row_more n f i h = let e : suc n - i ≡ suc (n - i) = omega arith in ap (λ m. sum_to m (f i)) e

last_row : (n : ℕ) (f : ℕ → ℕ → ℤ) → sum_to (suc n - n) (f n) ≡ pos 0 +ℤ line f n n
last_row n f =
    let e : suc n - n ≡ 1 = omega arith in
    let z : n - n ≡ 0 = omega arith in
    ap (λ m. sum_to m (f n)) e ∙ ap (λ j. pos 0 +ℤ f n j) (sym z)

-- line by line, or row by row
triangle : (n : ℕ) (f : ℕ → ℕ → ℤ) → sum_to n (λ k. sum_to (suc k) (line f k)) ≡ sum_to n (λ i. sum_to (n - i) (f i))
triangle zero f = refl
triangle (suc n) f =
    let rows : sum_to n (λ i. sum_to (suc n - i) (f i)) ≡ sum_to n (λ i. sum_to (n - i) (f i)) +ℤ sum_to n (line f n) =
    sum_same n (λ i. sum_to (suc n - i) (f i)) (λ i. sum_to (n - i) (f i) +ℤ line f n i) (row_more n f)
    ∙ sum_add n (λ i. sum_to (n - i) (f i)) (line f n) in
    ap (λ x. x +ℤ sum_to (suc n) (line f n)) (triangle n f)
    ∙ sym (rw (rows, last_row n f) (moved_nought (sum_to n (λ i. sum_to (n - i) (f i))) (sum_to n (line f n)) (line f n n)))

-- ---- terms that are 0
trim_by : (n d : ℕ) (f : ℕ → ℤ) → ((i : ℕ) → n ≤ i → f i ≡ pos 0) → sum_to (d + n) f ≡ sum_to n f
trim_by n zero f h = let none : 0 + n ≡ n = omega arith in ap (λ m. sum_to m f) none
trim_by n (suc d) f h =
    let more : suc d + n ≡ suc (d + n) = omega arith in
    ap (λ m. sum_to m f) more ∙ ap (λ x. x +ℤ f (d + n)) (trim_by n d f h) ∙ ap (λ x. sum_to n f +ℤ x) (h (d + n) (omega arith)) ∙ +ℤ_idr (sum_to n f)

trim : (n m : ℕ) (f : ℕ → ℤ) → n ≤ m → ((i : ℕ) → n ≤ i → f i ≡ pos 0) → sum_to m f ≡ sum_to n f
trim n m f few h = let e : m ≡ (m - n) + n = omega arith in ap (λ k. sum_to k f) e ∙ trim_by n (m - n) f h

pub after_end : (xs : List ℤ) (i : ℕ) → length xs ≤ i → vector_of xs i ≡ pos 0
after_end xs i h = get_or-eq_default xs (pos 0) h

-- ---- a product with a signal
-- a term of a product, at the place where it meets the signal
abbrev term : Vector → Vector → Vector → ℕ → ℕ → ℤ
term F G x i j = F i *ℤ (G j *ℤ x (i + j))

turned : (a b c : ℤ) → (a *ℤ b) *ℤ c ≡ a *ℤ (b *ℤ c)
turned a b c = let x = var 0 in let y = var 1 in let z = var 2 in ring (env (a ∷ b ∷ c ∷ [])) (times (times x y) z) (times x (times y z)) refl

commuted : (a b : ℤ) → a *ℤ b ≡ b *ℤ a
commuted a b = ring (env (a ∷ b ∷ [])) (times (var 0) (var 1)) (times (var 1) (var 0)) refl

pub nought_left : (a : ℤ) → pos 0 *ℤ a ≡ pos 0
nought_left a = ring (env (a ∷ [])) (times (num (pos 0)) (var 0)) (num (pos 0)) refl

nought_inside : (a b : ℤ) → a *ℤ (pos 0 *ℤ b) ≡ pos 0
nought_inside a b = ring (env (a ∷ b ∷ [])) (times (var 0) (times (num (pos 0)) (var 1))) (num (pos 0)) refl

pub sum_times : (n : ℕ) (f : ℕ → ℤ) (c : ℤ) → sum_to n f *ℤ c ≡ sum_to n (λ i. f i *ℤ c)
sum_times n f c =
    commuted (sum_to n f) c ∙ sym (sum_scale n c f) ∙ sum_same n (λ i. c *ℤ f i) (λ i. f i *ℤ c) (λ i h. commuted c (f i))

on_line : (F G x : Vector) (k i : ℕ) → i < suc k → (F i *ℤ G (k - i)) *ℤ x k ≡ line (term F G x) k i
on_line F G x k i h =
    let e : k ≡ i + (k - i) = omega arith in
    turned (F i) (G (k - i)) (x k) ∙ ap (λ m. F i *ℤ (G (k - i) *ℤ x m)) e

-- one coefficient of the product, times the signal
on_lines : (F G x : Vector) (k : ℕ) → sum_to (suc k) (λ i. F i *ℤ G (k - i)) *ℤ x k ≡ sum_to (suc k) (line (term F G x) k)
on_lines F G x k =
    sum_times (suc k) (λ i. F i *ℤ G (k - i)) (x k)
    ∙ sum_same (suc k) (λ i. (F i *ℤ G (k - i)) *ℤ x k) (line (term F G x) k) (λ i h. on_line F G x k i h)

-- a product of lists, on a signal, is one list on what the other makes of it
pub product_on : (fs gs : List ℤ) (n : ℕ) (x : Vector) → length fs + length gs ≤ n + 1 → 1 ≤ length gs →
    sum_to n (λ k. sum_to (suc k) (λ i. vector_of fs i *ℤ vector_of gs (k - i)) *ℤ x k)
    ≡ dot (length fs) (vector_of fs) (λ i. dot (length gs) (vector_of gs) (λ j. x (i + j)))
product_on fs gs n x few some =
    let F = vector_of fs in
    let G = vector_of gs in
    let f = term F G x in
    let row : (i : ℕ) → length fs ≤ i → sum_to (n - i) (f i) ≡ pos 0 = λ i h.
    sum_same (n - i) (f i) (λ j. pos 0) (λ j p. ap (λ z. z *ℤ (G j *ℤ x (i + j))) (after_end fs i h) ∙ nought_left (G j *ℤ x (i + j))) ∙ sum_none (n - i) in
    let inner : (i : ℕ) → i < length fs → sum_to (n - i) (f i) ≡ F i *ℤ dot (length gs) G (λ j. x (i + j)) = λ i h.
    trim (length gs) (n - i) (f i) (omega arith) (λ j p. ap (λ z. F i *ℤ (z *ℤ x (i + j))) (after_end gs j p) ∙ nought_inside (F i) (x (i + j)))
    ∙ sum_scale (length gs) (F i) (λ j. G j *ℤ x (i + j)) in
    sum_same n (λ k. sum_to (suc k) (λ i. F i *ℤ G (k - i)) *ℤ x k) (λ k. sum_to (suc k) (line f k)) (λ k p. on_lines F G x k)
    ∙ triangle n f
    ∙ trim (length fs) n (λ i. sum_to (n - i) (f i)) (omega arith) row
    ∙ sum_same (length fs) (λ i. sum_to (n - i) (f i)) (λ i. F i *ℤ dot (length gs) G (λ j. x (i + j))) inner
