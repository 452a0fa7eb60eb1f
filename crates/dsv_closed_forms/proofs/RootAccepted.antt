-- Where 1 or -1 is a root, the form -(q . v)^2 of the quotient q is accepted.
use Rattle.std.proofs.Common.{◌≡◌, ◌≢◌, ℕ, zero, suc, ◌+◌, ◌*◌, ◌^◌, ◌<◌, ◌≤◌, Bool, true, false, ◌&&◌, ◌==◌, nat_lt, List, [], ◌∷◌, ◌++◌, length, map, get_or, None, refl, ap, ◌∙◌, sym, arith}
use Rattle.std.proofs.Math.IntN.{ℤ, pos, neg_ℤ, ◌+ℤ◌, ◌-ℤ◌, ◌*ℤ◌, *ℤ-zero, zero-*ℤ, *ℤ_comm}
use Rattle.std.proofs.Math.Path.{fun_ext}
use Rattle.std.specs.List.{list_all}
use Rattle.std.specs.Ordering.{int_eq}
use Rattle.std.proofs.lemmas.Int.{ints}
use Rattle.std.proofs.lemmas.Nat.{mul-le}
use Rattle.std.proofs.lemmas.List.{get_or_past, length-map}
use Rattle.std.proofs.lemmas.Bool.Decides.{nat_tests}
use lib.Signed.{◌<ℤ◌}
use Rattle.dsv_algebra.specs.Vectors.{Vector, Matrix, sum_to, form_at, vector_of, matrix_of}
use Rattle.dsv_algebra.specs.Companion.{only, total_from, fall_entry}
use Rattle.dsv_algebra.proofs.Normaliser.{ring, env, var, num, plus, times, minus}
use Rattle.dsv_algebra.proofs.Sums.{sum_one, sum_same, sum_none}
use Rattle.dsv_algebra.proofs.Signs.{mul_positive}
use Rattle.dsv_forms.specs.Refusals.{places, bad_form, is_symmetric, too_many_rows, kept_away_refusal}
use Rattle.dsv_forms.proofs.Passing.{Within, within_times, within_plus, within_neg, fall_numbers_narrow, bare_numbers_narrow}
use Rattle.dsv_forms.proofs.Places.{all_true}
use Rattle.dsv_forms.proofs.PassingOffers.{same_test, value_numbers_narrow, kept_away_accepted}
use Rattle.dsv_forms.specs.Padded.{row_of, matrix_with, squares_with}
use Rattle.dsv_closed_forms.specs.ClosedForm.{minus_square, value_from, quotient_from}
use Rattle.dsv_forms.proofs.Padded.{row_entry, matrix_entry}

-- ---- the quotient

pub quotient_length : (t carry : ℤ) (cs : List ℤ) → length (quotient_from t carry cs) ≡ length cs
quotient_length t carry [] = refl
quotient_length t carry (c ∷ cs) = ap suc (quotient_length t (c +ℤ t *ℤ carry) cs)

first_of_quotient : (t carry : ℤ) (cs : List ℤ) → 1 ≤ length cs → vector_of (quotient_from t carry cs) 0 ≡ carry
first_of_quotient t carry [] h = absurd (omega arith)
first_of_quotient t carry (c ∷ cs) h = refl

undone : (c t x : ℤ) → c ≡ c +ℤ t *ℤ x -ℤ t *ℤ x
undone c t x = ring (env (c ∷ t ∷ x ∷ [])) (var 0) (plus (plus (var 0) (times (var 1) (var 2))) (minus (times (var 1) (var 2)))) refl

last_one : (c t x : ℤ) → c +ℤ t *ℤ x ≡ pos 0 → c ≡ pos 0 -ℤ t *ℤ x
last_one c t x h = undone c t x ∙ ap (λ z. z -ℤ t *ℤ x) h

-- each coefficient is the quotient's entry there less t times the entry before it
pub by_quotient : (t carry : ℤ) (cs : List ℤ) (k : ℕ) → value_from t carry cs ≡ pos 0
    → vector_of cs k ≡ vector_of (quotient_from t carry cs) (suc k) -ℤ t *ℤ vector_of (quotient_from t carry cs) k
by_quotient t carry [] k h = sym (ap (λ z. pos 0 -ℤ z) (*ℤ-zero t))
by_quotient t carry (c ∷ []) zero h = last_one c t carry h
by_quotient t carry (c ∷ []) (suc k) h = by_quotient t (c +ℤ t *ℤ carry) [] k h
by_quotient t carry (c ∷ b ∷ cs) zero h = undone c t carry
by_quotient t carry (c ∷ b ∷ cs) (suc k) h = by_quotient t (c +ℤ t *ℤ carry) (b ∷ cs) k h

-- its entries grow by at most n a place
pub quotient_within : (t carry : ℤ) (cs : List ℤ) (m n k : ℕ) → Within 1 t → Within m carry → ((i : ℕ) → Within n (vector_of cs i))
    → Within (m + n * length cs) (vector_of (quotient_from t carry cs) k)
quotient_within t carry [] m n k one h g = omega arith
quotient_within t carry (c ∷ cs) m n zero one h g = omega (arith, h)
quotient_within t carry (c ∷ cs) m n (suc k) one h g =
    let a : Within (1 * m) (t *ℤ carry) = within_times 1 m t carry one h in
    let b : Within (n + 1 * m) (c +ℤ t *ℤ carry) = within_plus n (1 * m) c (t *ℤ carry) (g 0) a in
    let more = quotient_within t (c +ℤ t *ℤ carry) cs (n + 1 * m) n k one b (λ i. g (suc i)) in
    let e : n + 1 * m + n * length cs ≡ m + n * suc (length cs) = omega arith in
    rw e at more

-- ---- the form

rows_short : (q xs : List ℤ) (k : ℕ) → length q ≤ 8 → length (get_or (map (λ a. map (λ b. neg_ℤ (a *ℤ b)) q) xs) k []) ≤ 8
rows_short q [] k few = omega arith
rows_short q (x ∷ xs) zero few = omega (arith, few, length-map q (λ b. neg_ℤ (x *ℤ b)))
rows_short q (x ∷ xs) (suc k) few = rows_short q xs k few

in_row : (x : ℤ) (q : List ℤ) (j : ℕ) → vector_of (map (λ b. neg_ℤ (x *ℤ b)) q) j ≡ neg_ℤ (x *ℤ vector_of q j)
in_row x [] j = sym (ap neg_ℤ (*ℤ-zero x))
in_row x (b ∷ q) zero = refl
in_row x (b ∷ q) (suc j) = in_row x q j

by_place : (q xs : List ℤ) (i j : ℕ) → vector_of (get_or (map (λ a. map (λ b. neg_ℤ (a *ℤ b)) q) xs) i []) j ≡ neg_ℤ (vector_of xs i *ℤ vector_of q j)
by_place q [] i j = sym (ap neg_ℤ (zero-*ℤ (vector_of q j)))
by_place q (x ∷ xs) zero j = in_row x q j
by_place q (x ∷ xs) (suc i) j = by_place q xs i j

pub square_entry : (q : List ℤ) (i j : ℕ) → length q ≤ 8 → matrix_of (minus_square q).form.rows i j ≡ neg_ℤ (vector_of q i *ℤ vector_of q j)
square_entry q i j few =
    matrix_entry (map (λ a. map (λ b. neg_ℤ (a *ℤ b)) q) q) i j (omega (arith, length-map q (λ a. map (λ b. neg_ℤ (a *ℤ b)) q), few)) (λ k. rows_short q q k few)
    ∙ by_place q q i j

-- ---- what it loses

-- the coefficients, and the form's entries, in terms of the quotient
abbrev coefficients : ℤ → Vector → Vector
coefficients t q zero = q 0
coefficients t q (suc k) = q (suc k) -ℤ t *ℤ q k

abbrev entries : Vector → Matrix
entries q i j = neg_ℤ (q i *ℤ q j)

nothing : (x t : ℤ) → t *ℤ t ≡ pos 1 → x *ℤ (t *ℤ t) -ℤ x ≡ pos 0
nothing x t h = rw h (ring (env (x ∷ [])) (plus (times (var 0) (num (pos 1))) (minus (var 0))) (num (pos 0)) refl)

lost : (b e : Bool) (t c x y u v : ℤ) → t *ℤ t ≡ pos 1 → (b ≡ false → u ≡ pos 0) → (e ≡ false → v ≡ pos 0)
    → total_from (pos 0) ((c *ℤ c, neg_ℤ (x *ℤ y)) ∷ (neg_ℤ ((u -ℤ t *ℤ x) *ℤ (v -ℤ t *ℤ y)), neg_ℤ (c *ℤ c))
    ∷ only e ((u -ℤ t *ℤ x) *ℤ c, neg_ℤ (c *ℤ v)) ++ only b (c *ℤ (v -ℤ t *ℤ y), neg_ℤ (u *ℤ c)) ++ only (b && e) (neg_ℤ (c *ℤ c), neg_ℤ (u *ℤ v))) ≡ pos 0
lost true true t c x y u v one h k =
    ring (env (t ∷ c ∷ x ∷ y ∷ u ∷ v ∷ []))
    (plus (plus (plus (plus (plus (num (pos 0)) (times (times (var 1) (var 1)) (minus (times (var 2) (var 3)))))
    (times (minus (times (plus (var 4) (minus (times (var 0) (var 2)))) (plus (var 5) (minus (times (var 0) (var 3)))))) (minus (times (var 1) (var 1)))))
    (times (times (plus (var 4) (minus (times (var 0) (var 2)))) (var 1)) (minus (times (var 1) (var 5)))))
    (times (times (var 1) (plus (var 5) (minus (times (var 0) (var 3))))) (minus (times (var 4) (var 1)))))
    (times (minus (times (var 1) (var 1))) (minus (times (var 4) (var 5)))))
    (plus (times (times (times (var 1) (var 1)) (times (var 2) (var 3))) (times (var 0) (var 0))) (minus (times (times (var 1) (var 1)) (times (var 2) (var 3))))) refl
    ∙ nothing (c *ℤ c *ℤ (x *ℤ y)) t one
lost true false t c x y u v one h k =
    rw (k refl) (ring (env (t ∷ c ∷ x ∷ y ∷ u ∷ []))
    (plus (plus (plus (num (pos 0)) (times (times (var 1) (var 1)) (minus (times (var 2) (var 3)))))
    (times (minus (times (plus (var 4) (minus (times (var 0) (var 2)))) (plus (num (pos 0)) (minus (times (var 0) (var 3)))))) (minus (times (var 1) (var 1)))))
    (times (times (var 1) (plus (num (pos 0)) (minus (times (var 0) (var 3))))) (minus (times (var 4) (var 1)))))
    (plus (times (times (times (var 1) (var 1)) (times (var 2) (var 3))) (times (var 0) (var 0))) (minus (times (times (var 1) (var 1)) (times (var 2) (var 3))))) refl)
    ∙ nothing (c *ℤ c *ℤ (x *ℤ y)) t one
lost false true t c x y u v one h k =
    rw (h refl) (ring (env (t ∷ c ∷ x ∷ y ∷ v ∷ []))
    (plus (plus (plus (num (pos 0)) (times (times (var 1) (var 1)) (minus (times (var 2) (var 3)))))
    (times (minus (times (plus (num (pos 0)) (minus (times (var 0) (var 2)))) (plus (var 4) (minus (times (var 0) (var 3)))))) (minus (times (var 1) (var 1)))))
    (times (times (plus (num (pos 0)) (minus (times (var 0) (var 2)))) (var 1)) (minus (times (var 1) (var 4)))))
    (plus (times (times (times (var 1) (var 1)) (times (var 2) (var 3))) (times (var 0) (var 0))) (minus (times (times (var 1) (var 1)) (times (var 2) (var 3))))) refl)
    ∙ nothing (c *ℤ c *ℤ (x *ℤ y)) t one
lost false false t c x y u v one h k =
    rw (h refl, k refl) (ring (env (t ∷ c ∷ x ∷ y ∷ []))
    (plus (plus (num (pos 0)) (times (times (var 1) (var 1)) (minus (times (var 2) (var 3)))))
    (times (minus (times (plus (num (pos 0)) (minus (times (var 0) (var 2)))) (plus (num (pos 0)) (minus (times (var 0) (var 3)))))) (minus (times (var 1) (var 1)))))
    (plus (times (times (times (var 1) (var 1)) (times (var 2) (var 3))) (times (var 0) (var 0))) (minus (times (times (var 1) (var 1)) (times (var 2) (var 3))))) refl)
    ∙ nothing (c *ℤ c *ℤ (x *ℤ y)) t one

past : (d k : ℕ) (q : Vector) → ((n : ℕ) → d ≤ n → q n ≡ pos 0) → nat_lt k d ≡ false → q k ≡ pos 0
past d k q h e = h k (grind (e, nat_tests, arith))

nothing_lost : (d : ℕ) (t : ℤ) (q : Vector) (i j : ℕ) → t *ℤ t ≡ pos 1 → ((n : ℕ) → d ≤ n → q n ≡ pos 0) → fall_entry d (coefficients t q) (entries q) i j ≡ pos 0
nothing_lost d t q i j one h =
    lost (nat_lt (suc i) d) (nat_lt (suc j) d) t (q 0) (q i) (q j) (q (suc i)) (q (suc j)) one (past d (suc i) q h) (past d (suc j) q h)

-- ---- the check

symmetric : (d : ℕ) (R : Matrix) → ((i j : ℕ) → R i j ≡ R j i) → is_symmetric d R ≡ true
symmetric d R h = all_true (λ i. list_all (λ j. int_eq (R i j) (R j i)) (places d)) d (λ i a. all_true (λ j. int_eq (R i j) (R j i)) d (λ j b. same_test (R i j) (R j i) (h i j)))

-- the vector 1, 0, ..
unit_start : (k : ℕ) → vector_of (row_of (pos 1 ∷ [])) (suc k) ≡ pos 0
unit_start k = row_entry (pos 1 ∷ []) (suc k) (omega arith)

entry_none : (x : ℤ) (v : Vector) (j : ℕ) → ((k : ℕ) → v (suc k) ≡ pos 0) → j ≢ 0 → x *ℤ v j ≡ pos 0
entry_none x v zero h n = absurd (n refl)
entry_none x v (suc j) h n = rw (h j) (*ℤ-zero x)

row_none : (d : ℕ) (P : Matrix) (v : Vector) (i : ℕ) → ((k : ℕ) → v (suc k) ≡ pos 0) → i ≢ 0 → sum_to d (λ j. P i j *ℤ v i *ℤ v j) ≡ pos 0
row_none d P v zero h n = absurd (n refl)
row_none d P v (suc i) h n = sum_same d (λ j. P (suc i) j *ℤ v (suc i) *ℤ v j) (λ j. pos 0) (λ j l. rw (h i, *ℤ-zero (P (suc i) j)) (zero-*ℤ (v j))) ∙ sum_none d

pub by_one : (x : ℤ) → x *ℤ pos 1 *ℤ pos 1 ≡ x
by_one x = ring (env (x ∷ [])) (times (times (var 0) (num (pos 1))) (num (pos 1))) (var 0) refl

first_alone : (d : ℕ) (P : Matrix) → form_at (suc d) P (vector_of (row_of (pos 1 ∷ []))) ≡ P 0 0
first_alone d P =
    let v = vector_of (row_of (pos 1 ∷ [])) in
    sum_one (suc d) (λ i. sum_to (suc d) (λ j. P i j *ℤ v i *ℤ v j)) 0 (omega arith) (λ i l n. row_none (suc d) P v i unit_start n)
    ∙ sum_one (suc d) (λ j. P 0 j *ℤ v 0 *ℤ v j) 0 (omega arith) (λ j l n. entry_none (P 0 j *ℤ v 0) v j unit_start n)
    ∙ by_one (P 0 0)

pub wider : (m n : ℕ) (z : ℤ) → Within m z → m ≤ n → Within n z
wider m n z h k = omega (arith, h, k)

coefficient_within : (n : ℕ) (c0 : ℤ) (cs : List ℤ) → Within n c0 → ((i : ℕ) → Within n (vector_of cs i)) → (k : ℕ) → Within n (vector_of (c0 ∷ cs) k)
coefficient_within n c0 cs h g zero = h
coefficient_within n c0 cs h g (suc k) = g k

by_place_of : (t c0 : ℤ) (cs : List ℤ) → 1 ≤ length cs → value_from t c0 cs ≡ pos 0 → (k : ℕ) → vector_of (c0 ∷ cs) k ≡ coefficients t (vector_of (quotient_from t c0 cs)) k
by_place_of t c0 cs some root zero = sym (first_of_quotient t c0 cs some)
by_place_of t c0 cs some root (suc k) = by_quotient t c0 cs k root

pub places_same : (m n : ℕ) → m ≡ n → (m == n) ≡ true
places_same m n e = grind (e, nat_tests, arith)

zero_rest : (i j : ℕ) → matrix_of (matrix_with []) i j ≡ pos 0
zero_rest i j = matrix_entry [] i j (omega arith) (λ k. omega arith)

no_rest : (d : ℕ) → too_many_rows d (squares_with (pos 1) [] [] []) ≡ false
no_rest d = rw (symmetric d (matrix_of (matrix_with [])) (λ i j. zero_rest i j ∙ sym (zero_rest j i))) (grind (nat_tests, arith))

start_within : (i : ℕ) → Within 1 (vector_of (row_of (pos 1 ∷ [])) i)
start_within zero = omega arith
start_within (suc i) = rw (unit_start i) (omega arith)

small_square : (d : ℕ) → d ≤ 8 → 2 ^ 64 * 1 * 1 * (d * d) < 2 ^ 126
small_square d h = let e = mul-le d d 8 8 h h in omega (arith, e)

minus_positive : (z : ℤ) → pos 0 <ℤ z → neg_ℤ z <ℤ pos 0
minus_positive z h = omega (arith, ints)

negative_start_of : (d : ℕ) (P : Matrix) (c0 : ℤ) → 1 ≤ d → (x : ℤ) → P 0 0 ≡ neg_ℤ (x *ℤ x) → x ≡ c0 → pos 0 <ℤ c0 → form_at d P (vector_of (row_of (pos 1 ∷ []))) <ℤ pos 0
negative_start_of zero P c0 some x e f h = absurd (omega arith)
negative_start_of (suc d) P c0 some x e f h = rw (first_alone d P, e, f) (minus_positive (c0 *ℤ c0) (mul_positive c0 c0 h h))

pub root_accepted : (t c0 : ℤ) (cs : List ℤ) → t *ℤ t ≡ pos 1 → Within 1 t → pos 0 <ℤ c0 → 1 ≤ length cs → length cs ≤ 8
    → Within (2 ^ 28) c0 → ((i : ℕ) → Within (2 ^ 28) (vector_of cs i)) → value_from t c0 cs ≡ pos 0
    → kept_away_refusal (c0 ∷ cs) (minus_square (quotient_from t c0 cs)) ≡ None
root_accepted t c0 cs one small positive some few head tail root =
    let q = quotient_from t c0 cs in
    let d = length cs in
    let offer = minus_square q in
    let P = matrix_of offer.form.rows in
    let c = vector_of (c0 ∷ cs) in
    let long : length q ≡ d = quotient_length t c0 cs in
    let entry : (i j : ℕ) → P i j ≡ neg_ℤ (vector_of q i *ℤ vector_of q j) = λ i j. square_entry q i j (omega (arith, long, few)) in
    let bound : (k : ℕ) → Within (2 ^ 32) (vector_of q k) = λ k. wider (2 ^ 28 + 2 ^ 28 * d) (2 ^ 32) (vector_of q k) (quotient_within t c0 cs (2 ^ 28) (2 ^ 28) k small head tail) (omega (arith, few)) in
    let within : (i j : ℕ) → Within (2 ^ 64) (P i j) = λ i j. rw (entry i j) (within_neg (2 ^ 64) (vector_of q i *ℤ vector_of q j) (within_times (2 ^ 32) (2 ^ 32) (vector_of q i) (vector_of q j) (bound i) (bound j))) in
    let coefficient : (k : ℕ) → Within (2 ^ 28) (c k) = coefficient_within (2 ^ 28) c0 cs head tail in
    let same_c : c ≡ coefficients t (vector_of q) = fun_ext (by_place_of t c0 cs some root) in
    let same_P : P ≡ entries (vector_of q) = fun_ext (λ i. fun_ext (λ j. entry i j)) in
    let after : (n : ℕ) → d ≤ n → vector_of q n ≡ pos 0 = λ n l. get_or_past q n (pos 0) (omega (arith, long, l)) in
    let lost_none : (i j : ℕ) → fall_entry d c P i j ≡ pos 0 = λ i j. ap (λ (k : Vector). fall_entry d k P i j) same_c ∙ ap (λ (R : Matrix). fall_entry d (coefficients t (vector_of q)) R i j) same_P ∙ nothing_lost d t (vector_of q) i j one after in
    let rows : length (map (λ a. map (λ b. neg_ℤ (a *ℤ b)) q) q) ≡ d = length-map q (λ a. map (λ b. neg_ℤ (a *ℤ b)) q) ∙ long in
    let form : bad_form d offer.form ≡ false = rw (places_same (length (map (λ a. map (λ b. neg_ℤ (a *ℤ b)) q) q)) d rows, symmetric d P (λ i j. entry i j ∙ ap neg_ℤ (*ℤ_comm (vector_of q i) (vector_of q j)) ∙ sym (entry j i))) refl in
    kept_away_accepted (c0 ∷ cs) offer d 0 (omega arith) form
    (record {
      shape = no_rest d;
      none = refl;
      way = λ i j a b. fall_numbers_narrow (2 ^ 28) (2 ^ 64) d c P i j coefficient within (omega arith) (omega arith);
      sides = λ i j a b. bare_numbers_narrow offer.fall (fall_entry d c P i j) i j 0 0 (rw (lost_none i j) (omega arith)) refl (rw (zero_rest i j) (omega arith)) (omega arith) (omega arith);
      same = λ i j a b. rw (lost_none i j, zero_rest i j) refl;
      rest = record { off = λ i j e. zero_rest i j; sign = λ i l. rw (zero_rest i i) (omega (arith, ints)); small = λ i l. rw (zero_rest i i) (omega arith) };
      small = omega arith;
    })
    (value_numbers_narrow d (2 ^ 64) 1 P (vector_of offer.start) within start_within (omega arith) (small_square d few) some)
    (negative_start_of d P c0 some (vector_of q 0) (entry 0 0) (first_of_quotient t c0 cs some) positive)
