-- The entries of what a form loses in a step of a companion matrix.
use Rattle.std.proofs.Common.{◌++◌, ◌&&◌, ◌≡◌, ◌≢◌, ℕ, suc, ◌<◌, ◌≤◌, ◌==◌, nat_lt, if◌then◌else◌, Bool, true, false, [], ◌∷◌, inl, inr, refl, sym, ap, ◌∙◌, arith}
use Rattle.std.proofs.Math.IntN.{ℤ, pos, ◌+ℤ◌, ◌-ℤ◌, ◌*ℤ◌, neg_ℤ, *ℤ_comm}
use Rattle.std.proofs.lemmas.Bool.{cases_lt}
use Rattle.std.proofs.lemmas.Bool.Decides.{nat_tests}
use Rattle.dsv_algebra.proofs.Normaliser.{ring, env, var, num, plus, times, minus}
use Rattle.dsv_algebra.specs.Vectors.{Vector, Matrix, sum_to, congruence}
use Rattle.dsv_algebra.specs.Companion.{companion, companion_fall_form, only, total_from, fall_entry}
use Rattle.dsv_algebra.proofs.Sums.{sum_one, sum_same, sum_none, sum_add, sum_scale, sum_first}

-- z where i is one of the first d places, else 0
abbrev within : ℕ → ℕ → ℤ → ℤ
within d i z = if nat_lt i d then z else pos 0

within_in : (d i : ℕ) (z : ℤ) → i < d → within d i z ≡ z
within_in d i z h = grind (arith, nat_tests)

within_out : (d i : ℕ) (z : ℤ) → d ≤ i → within d i z ≡ pos 0
within_out d i z h = grind (arith, nat_tests)

same_place : (i k : ℕ) (z : ℤ) → i ≡ k → (if i == k then z else pos 0) ≡ z
same_place i k z e = grind (arith, nat_tests)

other_place : (i k : ℕ) (z : ℤ) → i ≢ k → (if i == k then z else pos 0) ≡ pos 0
other_place i k z n = grind (arith, nat_tests)

no_term : (x z : ℤ) (i k : ℕ) → i ≢ k → x *ℤ (if i == k then z else pos 0) ≡ pos 0
no_term x z i k n = rw (other_place i k z n) (ring (env (x ∷ [])) (times (var 0) (num (pos 0))) (num (pos 0)) refl)

below_diagonal : (d : ℕ) (g : Vector) (z : ℤ) (k : ℕ) → sum_to d (λ i. g i *ℤ (if i == k then z else pos 0)) ≡ within d k (g k *ℤ z)
below_diagonal d g z k = elim (cases_lt k d) [
  | inl less ↦ sum_one d (λ i. g i *ℤ (if i == k then z else pos 0)) k less (λ i p n. no_term (g i) z i k n)
      ∙ rw (same_place k k z refl) (sym (within_in d k (g k *ℤ z) less))
  | inr more ↦ sum_same d (λ i. g i *ℤ (if i == k then z else pos 0)) (λ i. pos 0) (λ i p. no_term (g i) z i k (λ e. absurd (omega arith)))
      ∙ sum_none d ∙ sym (within_out d k (g k *ℤ z) more)
]

within_suc : (d k : ℕ) (z : ℤ) → within d k z ≡ within (suc d) (suc k) z
within_suc d k z = grind (arith, nat_tests)

-- a column of the companion matrix has the first row's entry and the one below the diagonal
column : (d : ℕ) (g c : Vector) (k : ℕ) → sum_to (suc d) (λ i. g i *ℤ companion c i k) ≡ g 0 *ℤ (pos 0 -ℤ c (suc k)) +ℤ within (suc d) (suc k) (g (suc k) *ℤ c 0)
column d g c k =
    sum_first d (λ i. g i *ℤ companion c i k)
    ∙ ap (λ t. g 0 *ℤ (pos 0 -ℤ c (suc k)) +ℤ t) (below_diagonal d (λ i. g (suc i)) (c 0) k ∙ within_suc d k (g (suc k) *ℤ c 0))

sum_factor : (d : ℕ) (f : ℕ → ℤ) (m : ℤ) → sum_to d (λ i. f i *ℤ m) ≡ sum_to d f *ℤ m
sum_factor d f m =
    sum_same d (λ i. f i *ℤ m) (λ i. m *ℤ f i) (λ i p. *ℤ_comm (f i) m) ∙ sum_scale d m f ∙ *ℤ_comm m (sum_to d f)

sum_within : (d l : ℕ) (f : ℕ → ℤ) → sum_to d (λ i. within d l (f i)) ≡ within d l (sum_to d f)
sum_within d l f = elim (cases_lt l d) [
  | inl less ↦ sum_same d (λ i. within d l (f i)) f (λ i p. within_in d l (f i) less) ∙ sym (within_in d l (sum_to d f) less)
  | inr more ↦ sum_same d (λ i. within d l (f i)) (λ i. pos 0) (λ i p. within_out d l (f i) more) ∙ sum_none d ∙ sym (within_out d l (sum_to d f) more)
]

-- an entry of C^T P C for the companion matrix
congruence_entry : ℕ → Vector → Matrix → ℕ → ℕ → ℤ
congruence_entry d c P k l =
    (P 0 0 *ℤ (pos 0 -ℤ c (suc k)) +ℤ within d (suc k) (P (suc k) 0 *ℤ c 0)) *ℤ (pos 0 -ℤ c (suc l))
    +ℤ within d (suc l) ((P 0 (suc l) *ℤ (pos 0 -ℤ c (suc k)) +ℤ within d (suc k) (P (suc k) (suc l) *ℤ c 0)) *ℤ c 0)

congruence_companion : (e : ℕ) (c : Vector) (P : Matrix) (k l : ℕ) → congruence (suc e) P (companion c) k l ≡ congruence_entry (suc e) c P k l
unfolding congruence_entry
congruence_companion e c P k l =
    let C = companion c in
    let d = suc e in
    let m = pos 0 -ℤ c (suc l) in
    sum_same d (λ i. sum_to d (λ j. P i j *ℤ C i k *ℤ C j l)) (λ i. (P i 0 *ℤ C i k) *ℤ m +ℤ within d (suc l) (P i (suc l) *ℤ C i k *ℤ c 0))
    (λ i p. column e (λ j. P i j *ℤ C i k) c l)
    ∙ sum_add d (λ i. (P i 0 *ℤ C i k) *ℤ m) (λ i. within d (suc l) (P i (suc l) *ℤ C i k *ℤ c 0))
    ∙ rw (
      sum_factor d (λ i. P i 0 *ℤ C i k) m,
      column e (λ i. P i 0) c k,
      sum_within d (suc l) (λ i. P i (suc l) *ℤ C i k *ℤ c 0),
      sum_factor d (λ i. P i (suc l) *ℤ C i k) (c 0),
      column e (λ i. P i (suc l)) c k,
    ) refl

expanded : (a b : Bool) (c ck cl p p00 p0l pk0 pkl : ℤ)
    → c *ℤ c *ℤ p -ℤ ((p00 *ℤ (pos 0 -ℤ ck) +ℤ (if a then pk0 *ℤ c else pos 0)) *ℤ (pos 0 -ℤ cl) +ℤ (if b then (p0l *ℤ (pos 0 -ℤ ck) +ℤ (if a then pkl *ℤ c else pos 0)) *ℤ c else pos 0))
    ≡ total_from (pos 0) ((c *ℤ c, p) ∷ (neg_ℤ (ck *ℤ cl), p00) ∷ only b (ck *ℤ c, p0l) ++ only a (c *ℤ cl, pk0) ++ only (a && b) (neg_ℤ (c *ℤ c), pkl))
expanded true true c ck cl p p00 p0l pk0 pkl =
    ring (env (c ∷ ck ∷ cl ∷ p ∷ p00 ∷ p0l ∷ pk0 ∷ pkl ∷ []))
    (plus (times (times (var 0) (var 0)) (var 3)) (minus (plus (times (plus (times (var 4) (plus (num (pos 0)) (minus (var 1)))) (times (var 6) (var 0))) (plus (num (pos 0)) (minus (var 2)))) (times (plus (times (var 5) (plus (num (pos 0)) (minus (var 1)))) (times (var 7) (var 0))) (var 0)))))
    (plus (plus (plus (plus (plus (num (pos 0)) (times (times (var 0) (var 0)) (var 3))) (times (minus (times (var 1) (var 2))) (var 4))) (times (times (var 1) (var 0)) (var 5))) (times (times (var 0) (var 2)) (var 6))) (times (minus (times (var 0) (var 0))) (var 7))) refl
expanded true false c ck cl p p00 p0l pk0 pkl =
    ring (env (c ∷ ck ∷ cl ∷ p ∷ p00 ∷ p0l ∷ pk0 ∷ pkl ∷ []))
    (plus (times (times (var 0) (var 0)) (var 3)) (minus (plus (times (plus (times (var 4) (plus (num (pos 0)) (minus (var 1)))) (times (var 6) (var 0))) (plus (num (pos 0)) (minus (var 2)))) (num (pos 0)))))
    (plus (plus (plus (num (pos 0)) (times (times (var 0) (var 0)) (var 3))) (times (minus (times (var 1) (var 2))) (var 4))) (times (times (var 0) (var 2)) (var 6))) refl
expanded false true c ck cl p p00 p0l pk0 pkl =
    ring (env (c ∷ ck ∷ cl ∷ p ∷ p00 ∷ p0l ∷ pk0 ∷ pkl ∷ []))
    (plus (times (times (var 0) (var 0)) (var 3)) (minus (plus (times (plus (times (var 4) (plus (num (pos 0)) (minus (var 1)))) (num (pos 0))) (plus (num (pos 0)) (minus (var 2)))) (times (plus (times (var 5) (plus (num (pos 0)) (minus (var 1)))) (num (pos 0))) (var 0)))))
    (plus (plus (plus (num (pos 0)) (times (times (var 0) (var 0)) (var 3))) (times (minus (times (var 1) (var 2))) (var 4))) (times (times (var 1) (var 0)) (var 5))) refl
expanded false false c ck cl p p00 p0l pk0 pkl =
    ring (env (c ∷ ck ∷ cl ∷ p ∷ p00 ∷ p0l ∷ pk0 ∷ pkl ∷ []))
    (plus (times (times (var 0) (var 0)) (var 3)) (minus (plus (times (plus (times (var 4) (plus (num (pos 0)) (minus (var 1)))) (num (pos 0))) (plus (num (pos 0)) (minus (var 2)))) (num (pos 0)))))
    (plus (plus (num (pos 0)) (times (times (var 0) (var 0)) (var 3))) (times (minus (times (var 1) (var 2))) (var 4))) refl

-- the fall form of a polynomial in the entries of P alone
pub companion_fall_form-is : (e : ℕ) (c : Vector) (P : Matrix) (i j : ℕ) → companion_fall_form (suc e) c P i j ≡ fall_entry (suc e) c P i j
unfolding congruence_entry
companion_fall_form-is e c P i j =
    ap (λ t. c 0 *ℤ c 0 *ℤ P i j -ℤ t) (congruence_companion e c P i j)
    ∙ expanded (nat_lt (suc i) (suc e)) (nat_lt (suc j) (suc e)) (c 0) (c (suc i)) (c (suc j)) (P i j) (P 0 0) (P 0 (suc j)) (P (suc i) 0) (P (suc i) (suc j))
