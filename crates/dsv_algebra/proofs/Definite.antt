-- Forms whose sign is shown by squares of triangular rows and a dominant rest.
use Rattle.std.proofs.Common.{◌≡◌, ◌≢◌, inl, inr, ℕ, zero, suc, ◌<◌, Bool, true, false, cond, eqb, [], ◌∷◌, refl, sym, ap, ◌∙◌, arith}
use Rattle.std.proofs.Math.IntN.{ℤ, pos, negsuc, ◌+ℤ◌, ◌*ℤ◌, ◌-ℤ◌, neg_ℤ}
use Rattle.std.proofs.lemmas.Int.{ints}
use Rattle.std.proofs.lemmas.Bool.{cases_lt, eq-eqb}
use Rattle.std.proofs.lemmas.Bool.Decides.{eqb_tells}
use lib.Signed.{◌<ℤ◌, ◌≤ℤ◌}
use Rattle.dsv_algebra.proofs.Normaliser.{ring, env, var, num, plus, times, minus}
use Rattle.dsv_algebra.proofs.Signs.{mul_positive, mul_not_negative, square_positive, positive_factor, not_negative_factor}
use Rattle.dsv_algebra.specs.Vectors.{Vector, Matrix, sum_to, form_at, dot}
use Rattle.dsv_algebra.specs.Squares.{squares, IsTriangular, size, beside, IsDominant}
use Rattle.dsv_algebra.proofs.Sums.{sum_one, sum_same, sum_add, sum_scale, sum_swap, sum_positive, sum_not_negative, last_of, form_by_squares}

times_none : (a : ℤ) → a *ℤ pos 0 ≡ pos 0
times_none a = ring (env (a ∷ [])) (times (var 0) (num (pos 0))) (num (pos 0)) refl

none_times : (a : ℤ) → pos 0 *ℤ a ≡ pos 0
none_times a = ring (env (a ∷ [])) (times (num (pos 0)) (var 0)) (num (pos 0)) refl

grouped : (w x : ℤ) → w *ℤ x *ℤ x ≡ w *ℤ (x *ℤ x)
grouped w x = ring (env (w ∷ x ∷ [])) (times (times (var 0) (var 1)) (var 1)) (times (var 0) (times (var 1) (var 1))) refl

pub square_not_negative : (x : ℤ) → pos 0 ≤ℤ (x *ℤ x)
square_not_negative (pos n) = omega (arith, ints)
square_not_negative (negsuc n) = omega (arith, ints)

pub weakly : (a : ℤ) → pos 0 <ℤ a → pos 0 ≤ℤ a
weakly a h = omega (arith, ints)

product_apart : (a b : ℤ) → a ≢ pos 0 → b ≢ pos 0 → (a *ℤ b) ≢ pos 0
product_apart a b p q e =
    let s = mul_positive (a *ℤ a) (b *ℤ b) (square_positive a p) (square_positive b q) in
    let same : (a *ℤ a) *ℤ (b *ℤ b) ≡ (a *ℤ b) *ℤ (a *ℤ b) =
    ring (env (a ∷ b ∷ [])) (times (times (var 0) (var 0)) (times (var 1) (var 1))) (times (times (var 0) (var 1)) (times (var 0) (var 1))) refl in
    let z : (a *ℤ a) *ℤ (b *ℤ b) ≡ pos 0 = same ∙ rw e refl in
    absurd (omega (arith, ints))

other_place : (d : ℕ) (rows : ℕ → Vector) (w v : Vector) (k : ℕ) → IsTriangular d w rows → k < d → ((j : ℕ) → k < j → j < d → v j ≡ pos 0)
    → (j : ℕ) → j < d → j ≢ k → rows k j *ℤ v j ≡ pos 0
other_place d rows w v k t below later j p n = elim (cases_lt j k) [
  | inl less ↦ rw (t.before k j less below) (none_times (v j))
  | inr more ↦ (let after : k < j = omega arith in rw (later j after p) (times_none (rows k j)))
]

pub triangular_positive : (d : ℕ) (w : Vector) (rows : ℕ → Vector) (v : Vector) (i : ℕ) → IsTriangular d w rows → i < d → v i ≢ pos 0
    → pos 0 <ℤ sum_to d (λ k. w k *ℤ dot d (rows k) v *ℤ dot d (rows k) v)
triangular_positive d w rows v i t below apart =
    let l = last_of d v i below apart in
    let k = l.place in
    let one : dot d (rows k) v ≡ rows k k *ℤ v k = sum_one d (λ j. rows k j *ℤ v j) k l.below (other_place d rows w v k t l.below l.after) in
    let x : pos 0 <ℤ (w k *ℤ dot d (rows k) v *ℤ dot d (rows k) v) =
    rw (grouped (w k) (dot d (rows k) v), one) (mul_positive (w k) ((rows k k *ℤ v k) *ℤ (rows k k *ℤ v k)) (t.weight k l.below) (square_positive (rows k k *ℤ v k) (product_apart (rows k k) (v k) (t.own k l.below) l.apart))) in
    sum_positive d (λ k. w k *ℤ dot d (rows k) v *ℤ dot d (rows k) v) k l.below
    (λ j p. rw (grouped (w j) (dot d (rows j) v)) (mul_not_negative (w j) (dot d (rows j) v *ℤ dot d (rows j) v) (weakly (w j) (t.weight j p)) (square_not_negative (dot d (rows j) v)))) x

-- ---- a dominant rest
-- twice a product and the size times the squares
both : (r x y : ℤ) → pos 0 ≤ℤ (pos 2 *ℤ (r *ℤ x *ℤ y) +ℤ (size r *ℤ (x *ℤ x) +ℤ size r *ℤ (y *ℤ y)))
both (pos n) x y =
    let e : pos 2 *ℤ (pos n *ℤ x *ℤ y) +ℤ (pos n *ℤ (x *ℤ x) +ℤ pos n *ℤ (y *ℤ y)) ≡ pos n *ℤ ((x +ℤ y) *ℤ (x +ℤ y)) =
    (let a = var 0 in let b = var 1 in let c = var 2 in
    ring (env (pos n ∷ x ∷ y ∷ [])) (plus (times (num (pos 2)) (times (times a b) c)) (plus (times a (times b b)) (times a (times c c)))) (times a (times (plus b c) (plus b c))) refl) in
    rw e (mul_not_negative (pos n) ((x +ℤ y) *ℤ (x +ℤ y)) (omega (arith, ints)) (square_not_negative (x +ℤ y)))
both (negsuc n) x y =
    let e : pos 2 *ℤ (negsuc n *ℤ x *ℤ y) +ℤ (pos (suc n) *ℤ (x *ℤ x) +ℤ pos (suc n) *ℤ (y *ℤ y)) ≡ pos (suc n) *ℤ ((x +ℤ neg_ℤ y) *ℤ (x +ℤ neg_ℤ y)) =
    (let a = var 0 in let b = var 1 in let c = var 2 in
    ring (env (pos (suc n) ∷ x ∷ y ∷ [])) (plus (times (num (pos 2)) (times (times (minus a) b) c)) (plus (times a (times b b)) (times a (times c c)))) (times a (times (plus b (minus c)) (plus b (minus c)))) refl) in
    rw e (mul_not_negative (pos (suc n)) ((x +ℤ neg_ℤ y) *ℤ (x +ℤ neg_ℤ y)) (omega (arith, ints)) (square_not_negative (x +ℤ neg_ℤ y)))

sum_le : (d : ℕ) (f g : ℕ → ℤ) → ((i : ℕ) → i < d → f i ≤ℤ g i) → sum_to d f ≤ℤ sum_to d g
sum_le zero f g h = omega (arith, ints)
sum_le (suc d) f g h = let a = sum_le d f g (λ i p. h i (omega arith)) in let b = h d (omega arith) in omega (arith, ints)

weighted : (s r x : ℤ) → s ≤ℤ r → (s *ℤ (x *ℤ x)) ≤ℤ (r *ℤ x *ℤ x)
weighted s r x h =
    let less : pos 0 ≤ℤ (r -ℤ s) = omega (arith, ints) in
    let a = mul_not_negative (r -ℤ s) (x *ℤ x) less (square_not_negative x) in
    let e : (r -ℤ s) *ℤ (x *ℤ x) ≡ r *ℤ x *ℤ x -ℤ s *ℤ (x *ℤ x) =
    (let p = var 0 in let q = var 1 in let u = var 2 in
    ring (env (r ∷ s ∷ x ∷ [])) (times (plus p (minus q)) (times u u)) (plus (times (times p u) u) (minus (times q (times u u)))) refl) in
    omega (arith, ints)

-- the diagonal's part of twice the form
abbrev on : Matrix → Vector → ℕ → ℕ → ℤ
on R v i j = cond (eqb i j) (pos 2 *ℤ (R i j *ℤ v i *ℤ v j)) (pos 0)

-- twice an entry's part, and what its size takes away at most
abbrev whole : Matrix → Vector → ℕ → ℕ → ℤ
whole R v i j = pos 2 *ℤ (R i j *ℤ v i *ℤ v j) +ℤ (beside R i j *ℤ (v i *ℤ v i) +ℤ beside R i j *ℤ (v j *ℤ v j))

at_place : (b : Bool) (r x y : ℤ) → cond b (pos 2 *ℤ (r *ℤ x *ℤ y)) (pos 0) ≤ℤ (pos 2 *ℤ (r *ℤ x *ℤ y) +ℤ (cond b (pos 0) (size r) *ℤ (x *ℤ x) +ℤ cond b (pos 0) (size r) *ℤ (y *ℤ y)))
at_place true r x y = rw (none_times (x *ℤ x), none_times (y *ℤ y)) (omega (arith, ints))
at_place false r x y = both r x y

off_place : (t : ℤ) (i j : ℕ) → j ≢ i → cond (eqb i j) t (pos 0) ≡ pos 0
off_place t i j n = elim (eqb_tells i j) [ inl e ↦ absurd (n (sym e.1)) | inr e ↦ rw e.0 refl ]

sum_times : (d : ℕ) (f : ℕ → ℤ) (c : ℤ) → sum_to d (λ j. f j *ℤ c) ≡ sum_to d f *ℤ c
sum_times zero f c = sym (none_times c)
sum_times (suc d) f c = rw (sum_times d f c) (let a = var 0 in let b = var 1 in let e = var 2 in ring (env (sum_to d f ∷ f d ∷ c ∷ [])) (plus (times a e) (times b e)) (times (plus a b) e) refl)

on_diagonal : (d : ℕ) (R : Matrix) (v : Vector) (i : ℕ) → i < d → sum_to d (λ j. on R v i j) ≡ pos 2 *ℤ (R i i *ℤ v i *ℤ v i)
on_diagonal d R v i below =
    sum_one d (λ j. on R v i j) i below (λ j p n. off_place (pos 2 *ℤ (R i j *ℤ v i *ℤ v j)) i j n) ∙ rw (eq-eqb i i refl) refl

split_whole : (d : ℕ) (R : Matrix) (v : Vector) → sum_to d (λ i. sum_to d (λ j. whole R v i j))
    ≡ pos 2 *ℤ form_at d R v +ℤ (sum_to d (λ i. sum_to d (λ j. beside R i j) *ℤ (v i *ℤ v i)) +ℤ sum_to d (λ i. sum_to d (λ j. beside R i j *ℤ (v j *ℤ v j))))
split_whole d R v =
    sum_same d (λ i. sum_to d (λ j. whole R v i j))
    (λ i. pos 2 *ℤ sum_to d (λ j. R i j *ℤ v i *ℤ v j) +ℤ (sum_to d (λ j. beside R i j) *ℤ (v i *ℤ v i) +ℤ sum_to d (λ j. beside R i j *ℤ (v j *ℤ v j))))
    (λ i p. sum_add d (λ j. pos 2 *ℤ (R i j *ℤ v i *ℤ v j)) (λ j. beside R i j *ℤ (v i *ℤ v i) +ℤ beside R i j *ℤ (v j *ℤ v j))
    ∙ rw (sum_scale d (pos 2) (λ j. R i j *ℤ v i *ℤ v j), sum_add d (λ j. beside R i j *ℤ (v i *ℤ v i)) (λ j. beside R i j *ℤ (v j *ℤ v j)), sum_times d (λ j. beside R i j) (v i *ℤ v i)) refl)
    ∙ sum_add d (λ i. pos 2 *ℤ sum_to d (λ j. R i j *ℤ v i *ℤ v j)) (λ i. sum_to d (λ j. beside R i j) *ℤ (v i *ℤ v i) +ℤ sum_to d (λ j. beside R i j *ℤ (v j *ℤ v j)))
    ∙ rw (sum_scale d (pos 2) (λ i. sum_to d (λ j. R i j *ℤ v i *ℤ v j)), sum_add d (λ i. sum_to d (λ j. beside R i j) *ℤ (v i *ℤ v i)) (λ i. sum_to d (λ j. beside R i j *ℤ (v j *ℤ v j)))) refl

turned : (i j : ℕ) (x y : ℤ) → x ≡ y → cond (eqb i j) (pos 0) (size x) ≡ cond (eqb j i) (pos 0) (size y)
turned i j x y e = elim (eqb_tells i j) [
  | inl a ↦ rw (a.0, eq-eqb j i (sym a.1)) refl
  | inr a ↦ (elim (eqb_tells j i) [ inl b ↦ absurd (a.1 (sym b.1)) | inr b ↦ rw (a.0, b.0, e) refl ])
]

back : (d : ℕ) (R : Matrix) (v : Vector) → IsDominant d R
    → sum_to d (λ i. sum_to d (λ j. beside R i j *ℤ (v j *ℤ v j))) ≡ sum_to d (λ i. sum_to d (λ j. beside R i j) *ℤ (v i *ℤ v i))
back d R v dom =
    sum_swap d d (λ i j. beside R i j *ℤ (v j *ℤ v j))
    ∙ sum_same d (λ j. sum_to d (λ i. beside R i j *ℤ (v j *ℤ v j))) (λ j. sum_to d (λ i. beside R j i) *ℤ (v j *ℤ v j))
    (λ j p. sum_times d (λ i. beside R i j) (v j *ℤ v j)
    ∙ ap (λ t. t *ℤ (v j *ℤ v j)) (sum_same d (λ i. beside R i j) (λ i. beside R j i) (λ i q. turned i j (R i j) (R j i) (dom.symmetric i j q p))))

pub dominant_not_negative : (d : ℕ) (R : Matrix) (v : Vector) → IsDominant d R → pos 0 ≤ℤ form_at d R v
dominant_not_negative d R v dom =
    let least = sum_le d (λ i. sum_to d (λ j. on R v i j)) (λ i. sum_to d (λ j. whole R v i j))
    (λ i p. sum_le d (λ j. on R v i j) (λ j. whole R v i j) (λ j q. at_place (eqb i j) (R i j) (v i) (v j))) in
    let diagonal = sum_same d (λ i. sum_to d (λ j. on R v i j)) (λ i. pos 2 *ℤ (R i i *ℤ v i *ℤ v i)) (λ i p. on_diagonal d R v i p) ∙ sum_scale d (pos 2) (λ i. R i i *ℤ v i *ℤ v i) in
    let most = sum_le d (λ i. sum_to d (λ j. beside R i j) *ℤ (v i *ℤ v i)) (λ i. R i i *ℤ v i *ℤ v i) (λ i p. weighted (sum_to d (λ j. beside R i j)) (R i i) (v i) (dom.dominant i p)) in
    let parts = split_whole d R v in
    let turned = back d R v dom in
    omega (arith, ints)

-- a form is positive at each vector other than 0 where m times it is weighted squares of triangular rows and a dominant rest
pub definite_positive : (d : ℕ) (m : ℤ) (T R : Matrix) (w : Vector) (rows : ℕ → Vector) (v : Vector) (i : ℕ)
    → pos 0 <ℤ m
    → ((i j : ℕ) → i < d → j < d → m *ℤ T i j ≡ squares d w rows i j +ℤ R i j)
    → IsTriangular d w rows → IsDominant d R → i < d → v i ≢ pos 0 → pos 0 <ℤ form_at d T v
definite_positive d m T R w rows v i scale identity t dom below apart =
    let e = form_by_squares d d m T R w rows v identity in
    let a = triangular_positive d w rows v i t below apart in
    let b = dominant_not_negative d R v dom in
    positive_factor m (form_at d T v) scale (omega (arith, ints))

-- a form is nowhere negative where m times it is squares, with weights that are not negative, and a dominant rest
pub semidefinite_not_negative : (d n : ℕ) (m : ℤ) (T R : Matrix) (w : Vector) (rows : ℕ → Vector) (v : Vector)
    → pos 0 <ℤ m
    → ((i j : ℕ) → i < d → j < d → m *ℤ T i j ≡ squares n w rows i j +ℤ R i j)
    → ((k : ℕ) → k < n → pos 0 ≤ℤ w k) → IsDominant d R → pos 0 ≤ℤ form_at d T v
semidefinite_not_negative d n m T R w rows v scale identity weights dom =
    let e = form_by_squares d n m T R w rows v identity in
    let a = sum_not_negative n (λ k. w k *ℤ dot d (rows k) v *ℤ dot d (rows k) v)
    (λ k p. rw (grouped (w k) (dot d (rows k) v)) (mul_not_negative (w k) (dot d (rows k) v *ℤ dot d (rows k) v) (weights k p) (square_not_negative (dot d (rows k) v)))) in
    let b = dominant_not_negative d R v dom in
    not_negative_factor m (form_at d T v) scale (omega (arith, ints))
