-- A form at the image of a longer vector.
use Rattle.std.proofs.Common.{◌≡◌, ◌≢◌, ℕ, zero, suc, ◌<◌, ◌==◌, if◌then◌else◌, [], ◌∷◌, refl, sym, ap, ◌∙◌, arith}
use Rattle.std.proofs.Math.IntN.{ℤ, pos, ◌+ℤ◌, ◌-ℤ◌, ◌*ℤ◌, neg_ℤ}
use Rattle.std.proofs.lemmas.Int.{ints}
use Rattle.std.proofs.lemmas.Bool.Decides.{nat_tests}
use Rattle.dsv_algebra.proofs.Normaliser.{ring, env, var, num, times}
use Rattle.dsv_algebra.specs.Vectors.{Vector, Matrix, sum_to, form_at, dot, congruence}
use Rattle.dsv_algebra.proofs.Sums.{sum_same, sum_none, sum_one, form_add, form_nought, form_scale, form_neg}
use Rattle.dsv_algebra.specs.Companion.{companion}
use Rattle.dsv_algebra.proofs.Congruence.{entry_out}
use Rattle.dsv_certfile.specs.declared.ellipsoid.Ellipsoid.{Ellipsoid}
use Rattle.dsv_ellipsoid.specs.Good.{form_of, disturbed, bordered, step_form, first_form}

-- ---- these are those of dsv_algebra's Congruence, for n columns in place of d

form_sum : (d n : ℕ) (A : ℕ → Matrix) (v : Vector) → sum_to n (λ k. form_at d (A k) v) ≡ form_at d (λ i j. sum_to n (λ k. A k i j)) v
form_sum d zero A v = sym (form_nought d v)
form_sum d (suc n) A v = ap (λ z. z +ℤ form_at d (A n) v) (form_sum d n A v) ∙ sym (form_add d (λ i j. sum_to n (λ k. A k i j)) (A n) v)

-- the form P at C v is the form C^T P C at v, where C has d rows and n columns
pub form_rectangular : (d n : ℕ) (P C : Matrix) (v : Vector) → form_at d P (λ i. dot n (C i) v) ≡ form_at n (congruence d P C) v
form_rectangular d n P C v =
    sum_same d (λ i. sum_to d (λ j. P i j *ℤ dot n (C i) v *ℤ dot n (C j) v)) (λ i. form_at n (λ k l. sum_to d (λ j. P i j *ℤ C i k *ℤ C j l)) v)
    (λ i p. sum_same d (λ j. P i j *ℤ dot n (C i) v *ℤ dot n (C j) v) (λ j. form_at n (λ k l. P i j *ℤ C i k *ℤ C j l) v) (λ j q. entry_out n (P i j) (C i) (C j) v)
    ∙ form_sum n d (λ j k l. P i j *ℤ C i k *ℤ C j l) v)
    ∙ form_sum n d (λ i k l. sum_to d (λ j. P i j *ℤ C i k *ℤ C j l)) v

-- ---- places
pub at_place : (i k : ℕ) (a b : ℤ) → i ≡ k → (if i == k then a else b) ≡ a
at_place i k a b e = grind (arith, nat_tests)

pub off_place : (i k : ℕ) (a b : ℤ) → i ≢ k → (if i == k then a else b) ≡ b
off_place i k a b n = grind (arith, nat_tests)

pub not_last : (i d : ℕ) → i < d → i ≢ d
not_last i d h e = absurd (omega arith)

none_of : (x y : ℤ) → pos 0 *ℤ x *ℤ y ≡ pos 0
none_of x y = ring (env (x ∷ y ∷ [])) (times (times (num (pos 0)) (var 0)) (var 1)) (num (pos 0)) refl

-- ---- a bordered form
pub inner : (d : ℕ) (P : Matrix) (m : ℤ) (i j : ℕ) → i < d → j < d → bordered d P m i j ≡ P i j
inner d P m i j p q = off_place i d (if j == d then m else pos 0) (if j == d then pos 0 else P i j) (not_last i d p) ∙ off_place j d (pos 0) (P i j) (not_last j d q)

pub beside_row : (d : ℕ) (P : Matrix) (m : ℤ) (i : ℕ) → i < d → bordered d P m i d ≡ pos 0
beside_row d P m i p = off_place i d (if d == d then m else pos 0) (if d == d then pos 0 else P i d) (not_last i d p) ∙ at_place d d (pos 0) (P i d) refl

pub below_column : (d : ℕ) (P : Matrix) (m : ℤ) (j : ℕ) → j < d → bordered d P m d j ≡ pos 0
below_column d P m j q = at_place d d (if j == d then m else pos 0) (if j == d then pos 0 else P d j) refl ∙ off_place j d m (pos 0) (not_last j d q)

pub corner : (d : ℕ) (P : Matrix) (m : ℤ) → bordered d P m d d ≡ m
corner d P m = at_place d d (if d == d then m else pos 0) (if d == d then pos 0 else P d d) refl ∙ at_place d d m (pos 0) refl

pub form_bordered : (d : ℕ) (P : Matrix) (m : ℤ) (u : Vector) → form_at (suc d) (bordered d P m) u ≡ form_at d P u +ℤ m *ℤ u d *ℤ u d
form_bordered d P m u =
    let B = bordered d P m in
    let rows : sum_to d (λ i. sum_to (suc d) (λ j. B i j *ℤ u i *ℤ u j)) ≡ form_at d P u =
    sum_same d (λ i. sum_to (suc d) (λ j. B i j *ℤ u i *ℤ u j)) (λ i. sum_to d (λ j. P i j *ℤ u i *ℤ u j))
    (λ i p.
    let head = sum_same d (λ j. B i j *ℤ u i *ℤ u j) (λ j. P i j *ℤ u i *ℤ u j) (λ j q. ap (λ z. z *ℤ u i *ℤ u j) (inner d P m i j p q)) in
    let end : B i d *ℤ u i *ℤ u d ≡ pos 0 = ap (λ z. z *ℤ u i *ℤ u d) (beside_row d P m i p) ∙ none_of (u i) (u d) in
    omega (arith, ints, head, end)) in
    let last : sum_to d (λ j. B d j *ℤ u d *ℤ u j) ≡ pos 0 =
    sum_same d (λ j. B d j *ℤ u d *ℤ u j) (λ j. pos 0) (λ j q. ap (λ z. z *ℤ u d *ℤ u j) (below_column d P m j q) ∙ none_of (u d) (u j)) ∙ sum_none d in
    let own : B d d *ℤ u d *ℤ u d ≡ m *ℤ u d *ℤ u d = ap (λ z. z *ℤ u d *ℤ u d) (corner d P m) in
    omega (arith, ints, rows, last, own)

-- ---- the step form
-- a vector with the disturbance after it
unfoldable pub with_last : ℕ → Vector → ℤ → Vector
with_last d v g j = if j == d then g else v j

-- what goes into place i
unfoldable pub into : ℕ → ℤ → ℤ
into i g = if i == 0 then g else pos 0

unit_times : (i : ℕ) (g : ℤ) → (if i == 0 then pos 1 else pos 0) *ℤ g ≡ into i g
unfolding into
unit_times zero g = ring (env (g ∷ [])) (times (num (pos 1)) (var 0)) (var 0) refl
unit_times (suc i) g =
    ap (λ z. z *ℤ g) (off_place (suc i) 0 (pos 1) (pos 0) (λ e. absurd (omega arith)))
    ∙ none_times g ∙ sym (off_place (suc i) 0 g (pos 0) (λ e. absurd (omega arith)))
  where
    none_times : (z : ℤ) → pos 0 *ℤ z ≡ pos 0
    none_times z = ring (env (z ∷ [])) (times (num (pos 0)) (var 0)) (num (pos 0)) refl

disturbed_row : (d : ℕ) (c v : Vector) (g : ℤ) (i : ℕ) → dot (suc d) (disturbed d c i) (with_last d v g) ≡ dot d (companion c i) v +ℤ into i g
unfolding with_last
disturbed_row d c v g i =
    let u = with_last d v g in
    let head = sum_same d (λ j. disturbed d c i j *ℤ u j) (λ j. companion c i j *ℤ v j)
    (λ j q. ap (λ z. z *ℤ u j) (off_place j d (if i == 0 then pos 1 else pos 0) (companion c i j) (not_last j d q)) ∙ ap (λ z. companion c i j *ℤ z) (off_place j d g (v j) (not_last j d q))) in
    let last : disturbed d c i d *ℤ u d ≡ into i g =
    ap (λ z. z *ℤ u d) (at_place d d (if i == 0 then pos 1 else pos 0) (companion c i d) refl) ∙ ap (λ z. (if i == 0 then pos 1 else pos 0) *ℤ z) (at_place d d g (v d) refl) ∙ unit_times i g in
    omega (arith, ints, head, last)

-- a form reads the first d places alone
pub form_read : (d : ℕ) (P : Matrix) (v w : Vector) → ((i : ℕ) → i < d → v i ≡ w i) → form_at d P v ≡ form_at d P w
form_read d P v w h =
    sum_same d (λ i. sum_to d (λ j. P i j *ℤ v i *ℤ v j)) (λ i. sum_to d (λ j. P i j *ℤ w i *ℤ w j))
    (λ i p. sum_same d (λ j. P i j *ℤ v i *ℤ v j) (λ j. P i j *ℤ w i *ℤ w j) (λ j q. ap (λ z. P i j *ℤ z *ℤ v j) (h i p) ∙ ap (λ z. P i j *ℤ w i *ℤ z) (h j q)))

-- the step form's value
pub step_form_at : (d : ℕ) (c v : Vector) (g : ℤ) (o : Ellipsoid)
    → form_at (suc d) (step_form d c o) (with_last d v g)
    ≡ o.lambda *ℤ form_at d (form_of o) v +ℤ o.mu *ℤ g *ℤ g -ℤ form_at d (form_of o) (λ i. dot d (companion c i) v +ℤ into i g)
unfolding with_last
step_form_at d c v g o =
    let u = with_last d v g in
    let C = disturbed d c in
    let B = bordered d (λ k l. o.lambda *ℤ (form_of o) k l) o.mu in
    let split = form_add (suc d) B (λ i j. neg_ℤ (congruence d (form_of o) C i j)) u in
    let negative = form_neg (suc d) (congruence d (form_of o) C) u in
    let image : form_at (suc d) (congruence d (form_of o) C) u ≡ form_at d (form_of o) (λ i. dot d (companion c i) v +ℤ into i g) =
    sym (form_rectangular d (suc d) (form_of o) C u) ∙ form_read d (form_of o) (λ i. dot (suc d) (C i) u) (λ i. dot d (companion c i) v +ℤ into i g) (λ i p. disturbed_row d c v g i) in
    let border : form_at (suc d) B u ≡ o.lambda *ℤ form_at d (form_of o) v +ℤ o.mu *ℤ g *ℤ g =
    form_bordered d (λ k l. o.lambda *ℤ (form_of o) k l) o.mu u
    ∙ ap (λ z. z +ℤ o.mu *ℤ u d *ℤ u d) (form_scale d o.lambda (form_of o) u ∙ ap (λ z. o.lambda *ℤ z) (form_read d (form_of o) u v (λ i p. off_place i d g (v i) (not_last i d p))))
    ∙ ap (λ z. o.lambda *ℤ form_at d (form_of o) v +ℤ o.mu *ℤ z *ℤ z) (at_place d d g (v d) refl) in
    omega (arith, ints, split, negative, image, border)

-- ---- the first form
first_entry : (k : ℤ) → Matrix
first_entry k i j = if i == 0 then (if j == 0 then k else pos 0) else pos 0

first_at : (e : ℕ) (k : ℤ) (v : Vector) → form_at (suc e) (first_entry k) v ≡ k *ℤ v 0 *ℤ v 0
unfolding first_entry
first_at e k v =
    let R = first_entry k in
    sum_one (suc e) (λ i. sum_to (suc e) (λ j. R i j *ℤ v i *ℤ v j)) 0 (omega arith)
    (λ i p n. sum_same (suc e) (λ j. R i j *ℤ v i *ℤ v j) (λ j. pos 0) (λ j q. ap (λ z. z *ℤ v i *ℤ v j) (off_place i 0 (if j == 0 then k else pos 0) (pos 0) n) ∙ none_of (v i) (v j)) ∙ sum_none (suc e))
    ∙ sum_one (suc e) (λ j. R 0 j *ℤ v 0 *ℤ v j) 0 (omega arith)
    (λ j q n. ap (λ z. z *ℤ v 0 *ℤ v j) (off_place j 0 k (pos 0) n) ∙ none_of (v 0) (v j))

pub first_form_at : (e : ℕ) (o : Ellipsoid) (v : Vector) → form_at (suc e) (first_form o) v ≡ o.nu *ℤ form_at (suc e) (form_of o) v -ℤ o.kappa *ℤ v 0 *ℤ v 0
unfolding first_entry
first_form_at e o v =
    let d = suc e in
    let split = form_add d (λ i j. o.nu *ℤ (form_of o) i j) (λ i j. neg_ℤ (first_entry o.kappa i j)) v in
    let scaled = form_scale d o.nu (form_of o) v in
    let negative = form_neg d (first_entry o.kappa) v in
    let own = first_at e o.kappa v in
    omega (arith, ints, split, scaled, negative, own)
