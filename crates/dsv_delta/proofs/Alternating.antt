-- Coefficients in z by repeated multiplication by z - 1.
use Rattle.std.proofs.Common.{◌≡◌, ℕ, zero, suc, ◌+◌, ◌-◌, ◌*◌, ◌^◌, ◌<◌, ◌≤◌, List, [], ◌∷◌, ◌++◌, length, drop, get_or, refl, sym, ap, ◌∙◌, arith, inl, inr, add-one, append_assoc, drop-cons}
use Rattle.std.proofs.Math.IntN.{ℤ, pos, ◌+ℤ◌, ◌-ℤ◌, ◌*ℤ◌, neg_ℤ}
use Rattle.std.proofs.lemmas.Int.{ints}
use Rattle.std.proofs.lemmas.Bool.{cases_lt}
use Rattle.std.proofs.lemmas.List.{get_or_append_left, get_or-append-add, drop_all}
use Rattle.std.proofs.lemmas.Nat.{pow_pos}
use Rattle.std.proofs.Math.Nat.{pow-suc, pow-le-pow_right}
use Rattle.std.specs.Int.RustNames.{unsigned_abs}
use Rattle.dsv_algebra.specs.Vectors.{Vector, vector_of, sum_to}
use Rattle.dsv_algebra.proofs.Normaliser.{ring, env, var, num, plus, times, minus}
use Rattle.dsv_algebra.proofs.Sums.{sum_same, sum_none}
use Rattle.dsv_delta.specs.Binomials.{choose}
use Rattle.dsv_delta.specs.ZCoefficients.{alternating, signed_choose, z_coefficient}
use Rattle.dsv_delta.specs.Differences.{differences}
use Rattle.dsv_delta.proofs.Table.{choose_none, choose_over}

neg_sum : (x y : ℤ) → neg_ℤ (x +ℤ y) ≡ neg_ℤ y -ℤ x
neg_sum x y = ring (env (x ∷ y ∷ [])) (minus (plus (var 0) (var 1))) (plus (minus (var 1)) (minus (var 0))) refl

alternating-sum : (k : ℕ) (x y : ℤ) → alternating k (x +ℤ y) ≡ alternating k x +ℤ alternating k y
alternating-sum zero x y = refl
alternating-sum (suc k) x y = ap neg_ℤ (alternating-sum k x y) ∙ spread (alternating k x) (alternating k y)
  where
    spread : (x y : ℤ) → neg_ℤ (x +ℤ y) ≡ neg_ℤ x +ℤ neg_ℤ y
    spread x y = ring (env (x ∷ y ∷ [])) (minus (plus (var 0) (var 1))) (plus (minus (var 0)) (minus (var 1))) refl

alternating-none : (k : ℕ) → alternating k (pos 0) ≡ pos 0
alternating-none zero = refl
alternating-none (suc k) = ap neg_ℤ (alternating-none k)

-- the rule of the triangle with signs
rule : (n k : ℕ) → signed_choose (suc n) (suc k) ≡ signed_choose n (suc k) -ℤ signed_choose n k
rule n k =
    ap neg_ℤ (alternating-sum k (pos (choose n k)) (pos (choose n (suc k))))
    ∙ neg_sum (alternating k (pos (choose n k))) (alternating k (pos (choose n (suc k))))

one_at_none : (n : ℕ) → signed_choose n 0 ≡ pos 1
one_at_none n = ap pos (choose_none n)

none_over : (n k : ℕ) → n < k → signed_choose n k ≡ pos 0
none_over n k h = ap (λ c. alternating k (pos c)) (choose_over n k h) ∙ alternating-none k

times_one : (x : ℤ) → x *ℤ pos 1 ≡ x
times_one x = ring (env (x ∷ [])) (times (var 0) (num (pos 1))) (var 0) refl

apart : (x y z : ℤ) → x *ℤ (y -ℤ z) ≡ x *ℤ y +ℤ pos 0 -ℤ x *ℤ z
apart x y z = ring (env (x ∷ y ∷ z ∷ [])) (times (var 0) (plus (var 1) (minus (var 2)))) (plus (plus (times (var 0) (var 1)) (num (pos 0))) (minus (times (var 0) (var 2)))) refl

sum_minus : (d : ℕ) (f g : ℕ → ℤ) → sum_to d (λ i. f i -ℤ g i) ≡ sum_to d f -ℤ sum_to d g
sum_minus zero f g = refl
sum_minus (suc d) f g = rw (sum_minus d f g) (four (sum_to d f) (sum_to d g) (f d) (g d))
  where
    four : (a b c e : ℤ) → (a -ℤ b) +ℤ (c -ℤ e) ≡ (a +ℤ c) -ℤ (b +ℤ e)
    four a b c e = omega (arith, ints)

last_step : (a b x y : ℤ) → y ≡ x → (a -ℤ b) +ℤ x ≡ (a +ℤ y) -ℤ b
last_step a b x y h = omega (arith, ints, h)

spread : (x y z : ℤ) → x *ℤ (y -ℤ z) ≡ x *ℤ y -ℤ x *ℤ z
spread x y z = ring (env (x ∷ y ∷ z ∷ [])) (times (var 0) (plus (var 1) (minus (var 2)))) (plus (times (var 0) (var 1)) (minus (times (var 0) (var 2)))) refl

own : (e : Vector) (n i : ℕ) → e i *ℤ signed_choose n (i - i) ≡ e i
own e n i = let none : i - i ≡ 0 = omega arith in ap (λ k. e i *ℤ signed_choose n k) none ∙ ap (λ z. e i *ℤ z) (one_at_none n) ∙ times_one (e i)

-- a coefficient of the product with z - 1
pub next_coefficient : (m : ℕ) (e : Vector) (i : ℕ) → i ≤ m → z_coefficient (suc m) e (suc i) ≡ z_coefficient m e (suc i) -ℤ z_coefficient m e i
next_coefficient m e i h =
    ap (λ t. t +ℤ e (suc i) *ℤ signed_choose (suc m - suc i) (suc i - suc i))
    (sum_same (suc i) (λ j. e j *ℤ signed_choose (suc m - j) (suc i - j)) (λ j. e j *ℤ signed_choose (m - j) (suc i - j) -ℤ e j *ℤ signed_choose (m - j) (i - j))
    (λ j p. at j p)
    ∙ sum_minus (suc i) (λ j. e j *ℤ signed_choose (m - j) (suc i - j)) (λ j. e j *ℤ signed_choose (m - j) (i - j)))
    ∙ last_step (sum_to (suc i) (λ j. e j *ℤ signed_choose (m - j) (suc i - j))) (z_coefficient m e i)
    (e (suc i) *ℤ signed_choose (suc m - suc i) (suc i - suc i)) (e (suc i) *ℤ signed_choose (m - suc i) (suc i - suc i))
    (own e (m - suc i) (suc i) ∙ sym (own e (suc m - suc i) (suc i)))
  where
    at : (j : ℕ) → j < suc i → e j *ℤ signed_choose (suc m - j) (suc i - j) ≡ e j *ℤ signed_choose (m - j) (suc i - j) -ℤ e j *ℤ signed_choose (m - j) (i - j)
    at j p =
        let a : suc m - j ≡ suc (m - j) = omega arith in
        let b : suc i - j ≡ suc (i - j) = omega arith in
        ap (λ n. e j *ℤ signed_choose n (suc i - j)) a ∙ ap (λ k. e j *ℤ signed_choose (suc (m - j)) k) b
        ∙ ap (λ z. e j *ℤ z) (rule (m - j) (i - j)) ∙ spread (e j) (signed_choose (m - j) (suc (i - j))) (signed_choose (m - j) (i - j))
        ∙ ap (λ k. e j *ℤ signed_choose (m - j) k -ℤ e j *ℤ signed_choose (m - j) (i - j)) (sym b)

-- the first coefficient
pub first_coefficient : (m : ℕ) (e : Vector) → z_coefficient m e 0 ≡ e 0
first_coefficient m e = first_of (e 0 *ℤ signed_choose (m - 0) (0 - 0)) ∙ own e (m - 0) 0
  where
    first_of : (x : ℤ) → pos 0 +ℤ x ≡ x
    first_of x = omega (arith, ints)

-- the coefficient after the last
pub over_coefficient : (m : ℕ) (e : Vector) → z_coefficient m e (suc m) ≡ e (suc m)
over_coefficient m e =
    ap (λ t. t +ℤ e (suc m) *ℤ signed_choose (m - suc m) (suc m - suc m))
    (sum_same (suc m) (λ j. e j *ℤ signed_choose (m - j) (suc m - j)) (λ j. pos 0) (λ j p. at j p) ∙ sum_none (suc m))
    ∙ first_of (e (suc m) *ℤ signed_choose (m - suc m) (suc m - suc m)) ∙ own e (m - suc m) (suc m)
  where
    first_of : (x : ℤ) → pos 0 +ℤ x ≡ x
    first_of x = omega (arith, ints)

    times_none : (x : ℤ) → x *ℤ pos 0 ≡ pos 0
    times_none x = ring (env (x ∷ [])) (times (var 0) (num (pos 0))) (num (pos 0)) refl

    at : (j : ℕ) → j < suc m → e j *ℤ signed_choose (m - j) (suc m - j) ≡ pos 0
    at j p = ap (λ z. e j *ℤ z) (none_over (m - j) (suc m - j) (omega arith)) ∙ times_none (e j)

-- ---- a list of them
pub length-differences : (b : ℤ) (xs : List ℤ) (e : ℤ) → length (differences b xs e) ≡ suc (length xs)
length-differences b [] e = refl
length-differences b (x ∷ xs) e = ap suc (length-differences x xs e)

-- the first entry, and each later one, of the list with e at its end
first_difference : (b : ℤ) (xs : List ℤ) (e : ℤ) → vector_of (differences b xs e) 0 ≡ vector_of (xs ++ e ∷ []) 0 -ℤ b
first_difference b [] e = refl
first_difference b (x ∷ xs) e = refl

later_difference : (b : ℤ) (xs : List ℤ) (e : ℤ) (i : ℕ) → i < length xs
    → vector_of (differences b xs e) (suc i) ≡ vector_of (xs ++ e ∷ []) (suc i) -ℤ vector_of (xs ++ e ∷ []) i
later_difference b [] e i h = absurd (omega arith)
later_difference b (x ∷ xs) e zero h = first_difference x xs e
later_difference b (x ∷ xs) e (suc i) h = later_difference x xs e i (omega arith)

-- the coefficients of the first j of the numbers
pub record IsPart (e : Vector) (j : ℕ) (xs : List ℤ) : Type 0 where
  pub places : length xs ≡ j
  pub values : (i : ℕ) → i < j → vector_of xs i ≡ z_coefficient (j - 1) e i

minus_none : (x : ℤ) → x -ℤ pos 0 ≡ x
minus_none x = omega (arith, ints)

-- with the next number at its end
extended : (e : Vector) (m : ℕ) (xs : List ℤ) (z : ℤ) → IsPart e (suc m) xs → z ≡ e (suc m) → (i : ℕ) → i ≤ suc m → vector_of (xs ++ z ∷ []) i ≡ z_coefficient m e i
extended e m xs z p is i h =
    let long = p.places in
    elim (cases_lt i (suc m)) [
      | inl less ↦ get_or_append_left xs (z ∷ []) (pos 0) i (omega arith) ∙ p.values i less ∙ ap (λ k. z_coefficient k e i) (same_order m)
      | inr more ↦ (let last : i ≡ length xs + 0 = omega arith in let own : suc m ≡ i = omega arith in
          ap (λ k. vector_of (xs ++ z ∷ []) k) last ∙ get_or-append-add xs (z ∷ []) 0 (pos 0) ∙ is ∙ sym (over_coefficient m e) ∙ ap (z_coefficient m e) own)
    ]
  where
    same_order : (m : ℕ) → suc m - 1 ≡ m
    same_order m = omega arith

product_values : (e : Vector) (j : ℕ) (xs : List ℤ) (z : ℤ) → IsPart e j xs → z ≡ e j → (i : ℕ) → i < suc j → vector_of (differences (pos 0) xs z) i ≡ z_coefficient j e i
product_values e zero xs z p is zero h =
    first_difference (pos 0) xs z ∙ minus_none (vector_of (xs ++ z ∷ []) 0) ∙ ap (λ ys. vector_of (ys ++ z ∷ []) 0) (empty xs p.places) ∙ is ∙ sym (first_coefficient 0 e)
  where
    empty : (xs : List ℤ) → length xs ≡ 0 → xs ≡ []
    empty [] h = refl
    empty (x ∷ xs) h = absurd (omega arith)
product_values e zero xs z p is (suc i) h = absurd (omega arith)
product_values e (suc m) xs z p is zero h =
    first_difference (pos 0) xs z ∙ minus_none (vector_of (xs ++ z ∷ []) 0) ∙ extended e m xs z p is 0 (omega arith) ∙ first_coefficient m e ∙ sym (first_coefficient (suc m) e)
product_values e (suc m) xs z p is (suc i) h =
    let long = p.places in
    later_difference (pos 0) xs z i (omega arith)
    ∙ rw (extended e m xs z p is (suc i) (omega arith), extended e m xs z p is i (omega arith)) refl
    ∙ sym (next_coefficient m e i (omega arith))

pub next_part : (e : Vector) (j : ℕ) (xs : List ℤ) (z : ℤ) → IsPart e j xs → z ≡ e j → IsPart e (j + 1) (differences (pos 0) xs z)
next_part e j xs z p is =
    let order : j + 1 - 1 ≡ j = omega arith in
    record {
      places = length-differences (pos 0) xs z ∙ ap suc p.places ∙ sym (add-one j);
      values = λ i h. product_values e j xs z p is i (omega arith) ∙ ap (λ k. z_coefficient k e i) (sym order);
    }

-- ---- how large they get
abs_minus : (a b : ℤ) → unsigned_abs (a -ℤ b) ≤ unsigned_abs a + unsigned_abs b
abs_minus a b = omega (arith, ints)

twice : (b : ℤ) (xs : List ℤ) (e : ℤ) (most : ℕ) → unsigned_abs b ≤ most → unsigned_abs e ≤ most → ((i : ℕ) → unsigned_abs (vector_of xs i) ≤ most)
    → (i : ℕ) → unsigned_abs (vector_of (differences b xs e) i) ≤ most + most
twice b [] e most p q h zero = omega (arith, abs_minus e b)
twice b [] e most p q h (suc i) = omega arith
twice b (x ∷ xs) e most p q h zero = omega (arith, abs_minus x b, h 0)
twice b (x ∷ xs) e most p q h (suc i) = twice x xs e most (h 0) q (λ i. h (suc i)) i

-- the greatest size of j coefficients
abbrev pub room : ℕ → ℕ
room j = 2 ^ 110 * 2 ^ j

pub next_room : (j : ℕ) (xs : List ℤ) (e : ℤ) → unsigned_abs e < 2 ^ 110 → ((i : ℕ) → unsigned_abs (vector_of xs i) ≤ room j)
    → (i : ℕ) → unsigned_abs (vector_of (differences (pos 0) xs e) i) ≤ room (j + 1)
next_room j xs e small h i =
    let double : 2 ^ (j + 1) ≡ 2 ^ j * 2 = ap (λ k. 2 ^ k) (add-one j) ∙ pow-suc 2 j in
    let some = pow_pos j in
    let t = twice (pos 0) xs e (room j) (omega arith) (omega arith) h i in
    omega arith

pub room_narrow : (j : ℕ) (z : ℤ) → j ≤ 8 → unsigned_abs z ≤ room j → unsigned_abs z < 2 ^ 126
room_narrow j z h p = let less : 2 ^ j ≤ 2 ^ 8 = pow-le-pow_right (omega arith) h in omega arith

-- ---- one difference more
pub differences_step : (q : List ℤ) (i : ℕ) (b e : ℤ) (out made : List ℤ) → i < length q → out ++ differences b (drop i q) e ≡ made
    → (out ++ (get_or q i (pos 0) -ℤ b) ∷ []) ++ differences (get_or q i (pos 0)) (drop (i + 1) q) e ≡ made
differences_step q i b e out made h same =
    let x = get_or q i (pos 0) in
    append_assoc out ((x -ℤ b) ∷ []) (differences x (drop (i + 1) q) e)
    ∙ ap (λ k. out ++ (x -ℤ b) ∷ differences x (drop k q) e) (add-one i)
    ∙ ap (λ xs. out ++ differences b xs e) (sym (drop-cons q i (pos 0) h))
    ∙ same

pub differences_end : (q : List ℤ) (i : ℕ) (b e : ℤ) (out made : List ℤ) → length q ≤ i → out ++ differences b (drop i q) e ≡ made → out ++ (e -ℤ b) ∷ [] ≡ made
differences_end q i b e out made h same = ap (λ xs. out ++ differences b xs e) (sym (drop_all i q h)) ∙ same
