-- The entries of the step form, and that both forms are symmetric.
use Rattle.std.proofs.Common.{◌≡◌, ◌≢◌, ℕ, zero, suc, ◌<◌, ◌≤◌, ◌==◌, nat_lt, if◌then◌else◌, Bool, true, false, List, [], ◌∷◌, refl, sym, ap, ◌∙◌, arith}
use Rattle.std.proofs.Math.IntN.{ℤ, pos, ◌+ℤ◌, ◌-ℤ◌, ◌*ℤ◌, neg_ℤ}
use Rattle.std.proofs.lemmas.Int.{ints}
use Rattle.std.proofs.lemmas.Bool.Decides.{nat_tests}
use Rattle.std.proofs.lemmas.Bool.{cases_lt}
use Rattle.std.proofs.Common.{inl, inr}
use Rattle.dsv_algebra.proofs.Normaliser.{ring, env, var, num, plus, times, minus}
use Rattle.dsv_algebra.specs.Vectors.{Vector, Matrix, sum_to, congruence}
use Rattle.dsv_algebra.specs.Companion.{companion, only, total_from, fall_entry, image_terms}
use Rattle.dsv_algebra.proofs.CompanionEntries.{companion_fall_form-is}
use Rattle.dsv_algebra.proofs.Congruence.{congruence-turned}
use Rattle.dsv_algebra.proofs.Sums.{sum_same, sum_first, sum_none, sum_one}
use Rattle.dsv_certfile.specs.declared.ellipsoid.Ellipsoid.{Ellipsoid}
use Rattle.dsv_ellipsoid.specs.Good.{form_of, disturbed, bordered, step_form, first_form}
use Rattle.dsv_ellipsoid.specs.Entries.{side_terms}
use Rattle.dsv_ellipsoid.proofs.Rectangular.{at_place, off_place, inner, beside_row, below_column, corner, not_last}

total_after : (s : ℤ) (ts : List (ℤ × ℤ)) → total_from s ts ≡ s +ℤ total_from (pos 0) ts
total_after s [] = omega (arith, ints)
total_after s (t ∷ ts) =
    let a = total_after (s +ℤ t.0 *ℤ t.1) ts in
    let b = total_after (pos 0 +ℤ t.0 *ℤ t.1) ts in
    omega (arith, ints, a, b)

-- in the first d columns the disturbance is absent
without : (d : ℕ) (c : Vector) (i j : ℕ) → j < d → disturbed d c i j ≡ companion c i j
without d c i j h = off_place j d (if i == 0 then pos 1 else pos 0) (companion c i j) (not_last j d h)

congruence_without : (d : ℕ) (c : Vector) (P : Matrix) (k l : ℕ) → k < d → l < d → congruence d P (disturbed d c) k l ≡ congruence d P (companion c) k l
congruence_without d c P k l p q =
    let C = disturbed d c in
    sum_same d (λ i. sum_to d (λ j. P i j *ℤ C i k *ℤ C j l)) (λ i. sum_to d (λ j. P i j *ℤ companion c i k *ℤ companion c j l))
    (λ i a. sum_same d (λ j. P i j *ℤ C i k *ℤ C j l) (λ j. P i j *ℤ companion c i k *ℤ companion c j l)
    (λ j b. ap (λ z. P i j *ℤ z *ℤ C j l) (without d c i k p) ∙ ap (λ z. P i j *ℤ companion c i k *ℤ z) (without d c j l q)))

joined_entry : (lp cc p n t fall : ℤ) → cc *ℤ p -ℤ n ≡ fall → fall ≡ (pos 0 +ℤ cc *ℤ p) +ℤ t → lp -ℤ n ≡ (pos 0 +ℤ lp) +ℤ t
joined_entry lp cc p n t fall h k = omega (arith, ints, h, k)

inside : (e : ℕ) (c : Vector) (o : Ellipsoid) (i j : ℕ) → i < suc e → j < suc e → step_form (suc e) c o i j ≡ total_from (pos 0) ((o.lambda, form_of o i j) ∷ image_terms (suc e) c (form_of o) i j)
inside e c o i j p q =
    let d = suc e in
    let P = form_of o in
    let rest = image_terms d c P i j in
    let border = inner d (λ k l. o.lambda *ℤ P k l) o.mu i j p q in
    let same = congruence_without d c P i j p q in
    let fall = companion_fall_form-is e c P i j in
    let own = joined_entry (o.lambda *ℤ P i j) (c 0 *ℤ c 0) (P i j) (congruence d P (companion c) i j) (total_from (pos 0) rest) (fall_entry d c P i j) fall
    (total_after (pos 0 +ℤ c 0 *ℤ c 0 *ℤ P i j) rest) in
    ap (λ z. z -ℤ congruence d P (disturbed d c) i j) border ∙ ap (λ z. o.lambda *ℤ P i j -ℤ z) same ∙ own
    ∙ sym (total_after (pos 0 +ℤ o.lambda *ℤ P i j) rest)

-- ---- the disturbance's column
times_one : (a b : ℤ) → a *ℤ b *ℤ pos 1 ≡ a *ℤ b
times_one a b = ring (env (a ∷ b ∷ [])) (times (times (var 0) (var 1)) (num (pos 1))) (times (var 0) (var 1)) refl

times_none : (a b : ℤ) → a *ℤ b *ℤ pos 0 ≡ pos 0
times_none a b = ring (env (a ∷ b ∷ [])) (times (times (var 0) (var 1)) (num (pos 0))) (num (pos 0)) refl

no_times : (a : ℤ) → a *ℤ pos 0 ≡ pos 0
no_times a = ring (env (a ∷ [])) (times (var 0) (num (pos 0))) (num (pos 0)) refl

column_at : (d : ℕ) (c : Vector) (i : ℕ) → disturbed d c i d ≡ (if i == 0 then pos 1 else pos 0)
column_at d c i = at_place d d (if i == 0 then pos 1 else pos 0) (companion c i d) refl

first_in_column : (d : ℕ) (c : Vector) → disturbed d c 0 d ≡ pos 1
first_in_column d c = column_at d c 0

others_in_column : (d : ℕ) (c : Vector) (i : ℕ) → i ≢ 0 → disturbed d c i d ≡ pos 0
others_in_column d c i n = column_at d c i ∙ off_place i 0 (pos 1) (pos 0) n

-- the sum over the second place, where it is the disturbance's
second_sum : (e : ℕ) (c : Vector) (g : ℕ → ℤ) (x : ℤ) → sum_to (suc e) (λ j. g j *ℤ x *ℤ disturbed (suc e) c j (suc e)) ≡ g 0 *ℤ x
second_sum e c g x =
    let d = suc e in
    sum_one d (λ j. g j *ℤ x *ℤ disturbed d c j d) 0 (omega arith) (λ j p n. ap (λ z. g j *ℤ x *ℤ z) (others_in_column d c j n) ∙ times_none (g j) x)
    ∙ ap (λ z. g 0 *ℤ x *ℤ z) (first_in_column d c) ∙ times_one (g 0) x

-- what stands below the first row of a column
lower_part : (b : Bool) (x y : ℤ) → ℤ
lower_part b x y = if b then x *ℤ y else pos 0

at_lower : (e : ℕ) (c : Vector) (g : ℕ → ℤ) (k : ℕ) → k < suc e → sum_to e (λ i. g (suc i) *ℤ companion c (suc i) k) ≡ lower_part (nat_lt (suc k) (suc e)) (g (suc k)) (c 0)
unfolding lower_part
at_lower e c g k h = elim (cases_lt k e) [
  | inl less ↦ (let t : nat_lt (suc k) (suc e) ≡ true = grind (arith, nat_tests) in
      sum_one e (λ i. g (suc i) *ℤ companion c (suc i) k) k less (λ i p n. ap (λ z. g (suc i) *ℤ z) (off_place i k (c 0) (pos 0) n) ∙ no_times (g (suc i)))
      ∙ ap (λ z. g (suc k) *ℤ z) (at_place k k (c 0) (pos 0) refl) ∙ ap (λ b. if b then g (suc k) *ℤ c 0 else pos 0) (sym t))
  | inr more ↦ (let t : nat_lt (suc k) (suc e) ≡ false = grind (arith, nat_tests) in
      sum_same e (λ i. g (suc i) *ℤ companion c (suc i) k) (λ i. pos 0) (λ i p. ap (λ z. g (suc i) *ℤ z) (off_place i k (c 0) (pos 0) (λ q. absurd (omega arith))) ∙ no_times (g (suc i)))
      ∙ sum_none e ∙ ap (λ b. if b then g (suc k) *ℤ c 0 else pos 0) (sym t))
]

column_sum : (e : ℕ) (c : Vector) (g : ℕ → ℤ) (k : ℕ) → k < suc e
    → sum_to (suc e) (λ i. g i *ℤ disturbed (suc e) c i k) ≡ g 0 *ℤ (pos 0 -ℤ c (suc k)) +ℤ lower_part (nat_lt (suc k) (suc e)) (g (suc k)) (c 0)
column_sum e c g k h =
    sum_same (suc e) (λ i. g i *ℤ disturbed (suc e) c i k) (λ i. g i *ℤ companion c i k) (λ i p. ap (λ z. g i *ℤ z) (without (suc e) c i k h))
    ∙ sum_first e (λ i. g i *ℤ companion c i k)
    ∙ ap (λ z. g 0 *ℤ (pos 0 -ℤ c (suc k)) +ℤ z) (at_lower e c g k h)

side_value : (b : Bool) (c0 ck p q : ℤ) → pos 0 -ℤ (p *ℤ (pos 0 -ℤ ck) +ℤ lower_part b q c0) ≡ total_from (pos 0) ((ck, p) ∷ only b (neg_ℤ c0, q))
unfolding lower_part
side_value true c0 ck p q = ring (env (c0 ∷ ck ∷ p ∷ q ∷ []))
    (plus (num (pos 0)) (minus (plus (times (var 2) (plus (num (pos 0)) (minus (var 1)))) (times (var 3) (var 0)))))
    (plus (plus (num (pos 0)) (times (var 1) (var 2))) (times (minus (var 0)) (var 3))) refl
side_value false c0 ck p q = ring (env (c0 ∷ ck ∷ p ∷ []))
    (plus (num (pos 0)) (minus (plus (times (var 2) (plus (num (pos 0)) (minus (var 1)))) (num (pos 0)))))
    (plus (num (pos 0)) (times (var 1) (var 2))) refl

-- the border's columns before any symmetry
column_entry : (e : ℕ) (c : Vector) (P : Matrix) (k : ℕ) → k < suc e
    → congruence (suc e) P (disturbed (suc e) c) k (suc e) ≡ P 0 0 *ℤ (pos 0 -ℤ c (suc k)) +ℤ lower_part (nat_lt (suc k) (suc e)) (P (suc k) 0) (c 0)
column_entry e c P k h =
    let d = suc e in
    let C = disturbed d c in
    sum_same d (λ i. sum_to d (λ j. P i j *ℤ C i k *ℤ C j d)) (λ i. P i 0 *ℤ C i k) (λ i p. second_sum e c (P i) (C i k))
    ∙ column_sum e c (λ i. P i 0) k h

corner_entry : (e : ℕ) (c : Vector) (P : Matrix) → congruence (suc e) P (disturbed (suc e) c) (suc e) (suc e) ≡ P 0 0
corner_entry e c P =
    let d = suc e in
    let C = disturbed d c in
    sum_same d (λ i. sum_to d (λ j. P i j *ℤ C i d *ℤ C j d)) (λ i. P i 0 *ℤ C i d) (λ i p. second_sum e c (P i) (C i d))
    ∙ sum_one d (λ i. P i 0 *ℤ C i d) 0 (omega arith) (λ i p n. ap (λ z. P i 0 *ℤ z) (others_in_column d c i n) ∙ no_times (P i 0))
    ∙ ap (λ z. P 0 0 *ℤ z) (first_in_column d c) ∙ ring (env (P 0 0 ∷ [])) (times (var 0) (num (pos 1))) (var 0) refl

mirrored : (b : Bool) (x y z : ℤ) → (b ≡ true → x ≡ y) → lower_part b x z ≡ lower_part b y z
unfolding lower_part
mirrored true x y z h = ap (λ t. t *ℤ z) (h refl)
mirrored false x y z h = refl

below_next : (k d : ℕ) → nat_lt (suc k) d ≡ true → suc k < d
below_next k d e = grind (e, nat_tests, arith)

-- the entries of the step form of a symmetric form, in d places and the disturbance's
pub record AreEntries (d : ℕ) (c : Vector) (o : Ellipsoid) : Type 0 where
  pub inside : (i j : ℕ) → i < d → j < d → step_form d c o i j ≡ total_from (pos 0) ((o.lambda, form_of o i j) ∷ image_terms d c (form_of o) i j)
  pub side : (i : ℕ) → i < d → step_form d c o i d ≡ total_from (pos 0) (side_terms d c o i)
  pub corner : step_form d c o d d ≡ o.mu -ℤ form_of o 0 0

pub entries : (d : ℕ) (c : Vector) (o : Ellipsoid) → 1 ≤ d → ((i j : ℕ) → i < d → j < d → form_of o i j ≡ form_of o j i) → AreEntries d c o
entries zero c o h symmetric = absurd (omega arith)
entries (suc e) c o h symmetric =
    let d = suc e in
    let P = form_of o in
    let Q : Matrix = λ k l. o.lambda *ℤ P k l in
    record {
      inside = inside e c o;
      side = λ i p. ap (λ z. z -ℤ congruence d P (disturbed d c) i d) (beside_row d Q o.mu i p) ∙ ap (λ z. pos 0 -ℤ z) (column_entry e c P i p)
          ∙ ap (λ z. pos 0 -ℤ (P 0 0 *ℤ (pos 0 -ℤ c (suc i)) +ℤ z)) (mirrored (nat_lt (suc i) d) (P (suc i) 0) (P 0 (suc i)) (c 0) (λ t. symmetric (suc i) 0 (below_next i d t) (omega arith)))
          ∙ side_value (nat_lt (suc i) d) (c 0) (c (suc i)) (P 0 0) (P 0 (suc i));
      corner = ap (λ z. z -ℤ congruence d P (disturbed d c) d d) (corner d Q o.mu) ∙ ap (λ z. o.mu -ℤ z) (corner_entry e c P);
    }

-- ---- both forms are symmetric
bordered_turned : (d : ℕ) (P : Matrix) (m : ℤ) (i j : ℕ) → i < suc d → j < suc d → ((i j : ℕ) → i < d → j < d → P i j ≡ P j i) → bordered d P m i j ≡ bordered d P m j i
bordered_turned d P m i j p q h = elim (cases_lt i d) [
  | inl a ↦ elim (cases_lt j d) [
    | inl b ↦ inner d P m i j a b ∙ h i j a b ∙ sym (inner d P m j i b a)
    | inr b ↦ (let e : j ≡ d = omega arith in
        ap (λ k. bordered d P m i k) e ∙ beside_row d P m i a ∙ sym (ap (λ k. bordered d P m k i) e ∙ below_column d P m i a))
  ]
  | inr a ↦ (let f : i ≡ d = omega arith in elim (cases_lt j d) [
    | inl b ↦ ap (λ k. bordered d P m k j) f ∙ below_column d P m j b ∙ sym (ap (λ k. bordered d P m j k) f ∙ beside_row d P m j b)
    | inr b ↦ (let e : j ≡ d = omega arith in let same : i ≡ j = omega arith in
        ap (λ k. bordered d P m k j) same ∙ ap (λ k. bordered d P m j k) (sym same))
  ])
]

pub step_turned : (d : ℕ) (c : Vector) (o : Ellipsoid) → ((i j : ℕ) → i < d → j < d → form_of o i j ≡ form_of o j i)
    → (i j : ℕ) → i < suc d → j < suc d → step_form d c o i j ≡ step_form d c o j i
step_turned d c o h i j p q =
    let P = form_of o in
    let Q : Matrix = λ k l. o.lambda *ℤ P k l in
    ap (λ z. z -ℤ congruence d P (disturbed d c) i j) (bordered_turned d Q o.mu i j p q (λ i j a b. ap (λ z. o.lambda *ℤ z) (h i j a b)))
    ∙ ap (λ z. bordered d Q o.mu j i -ℤ z) (congruence-turned d P (disturbed d c) i j h)

only_first : (i j : ℕ) (k : ℤ) → (if i == 0 then (if j == 0 then k else pos 0) else pos 0) ≡ (if j == 0 then (if i == 0 then k else pos 0) else pos 0)
only_first i j k = swapped (i == 0) (j == 0)
  where
    swapped : (a b : Bool) → (if a then (if b then k else pos 0) else pos 0) ≡ (if b then (if a then k else pos 0) else pos 0)
    swapped true true = refl
    swapped true false = refl
    swapped false true = refl
    swapped false false = refl

pub first_turned : (d : ℕ) (o : Ellipsoid) → ((i j : ℕ) → i < d → j < d → form_of o i j ≡ form_of o j i) → (i j : ℕ) → i < d → j < d → first_form o i j ≡ first_form o j i
first_turned d o h i j p q =
    ap (λ z. o.nu *ℤ z -ℤ (if i == 0 then (if j == 0 then o.kappa else pos 0) else pos 0)) (h i j p q)
    ∙ ap (λ z. o.nu *ℤ form_of o j i -ℤ z) (only_first i j o.kappa)
