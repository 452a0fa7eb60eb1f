-- Numbers scaled by powers, and bounded.
use Rattle.std.proofs.Common.{◌≡◌, ℕ, zero, suc, ◌+◌, ◌-◌, ◌*◌, ◌/◌, ◌%◌, ◌^◌, ◌<◌, ◌≤◌, ◌==◌, Bool, true, false, List, [], ◌∷◌, length, map, Option, Some, None, Ok, Err, refl, sym, ap, ◌∙◌, arith, inl, inr, add-one}
use Rattle.std.proofs.Math.IntN.{ℤ, pos, ◌*ℤ◌}
use Rattle.std.proofs.Math.Nat.{pow-suc, pow-zero, pow-le-pow_right}
use Rattle.std.proofs.lemmas.Nat.{mul-le, pow_pos}
use Rattle.std.proofs.lemmas.Int.{unsigned_abs-mul}
use Rattle.std.proofs.lemmas.Bool.{cases_lt}
use Rattle.std.proofs.lemmas.Bool.Decides.{nat_tests}
use Rattle.std.proofs.lemmas.List.FromFn.{fill_by_all}
use Rattle.std.specs.Int.RustNames.{unsigned_abs}
use Rattle.std.specs.List.{range_with_len}
use Rattle.dsv_algebra.specs.Vectors.{Vector, vector_of}
use Rattle.dsv_algebra.proofs.Normaliser.{ring, env, var, num, times}
use Rattle.dsv_delta.specs.ZCoefficients.{Dyadic, dyadic, scaled, is_too_wide, first_wide, z_coefficient, expansion}
use Rattle.dsv_delta.specs.Differences.{bounded}
use Rattle.dsv_delta.proofs.Alternating.{IsPart}

pub bounded_some : (z w : ℤ) → Some w ≡ bounded z → (w ≡ z) × (unsigned_abs w < 2 ^ 110)
bounded_some z w e = grind arith

pub bounded_none : (z : ℤ) → None ≡ bounded z → 2 ^ 110 ≤ unsigned_abs z
bounded_none z e = grind arith

pub large_bounded : (z : ℤ) → 2 ^ 110 ≤ unsigned_abs z → bounded z ≡ None
large_bounded z h = grind arith

pub small_bounded : (z w : ℤ) → w ≡ z → unsigned_abs w < 2 ^ 110 → bounded z ≡ Some w
small_bounded z w e h = grind arith

-- a product with a greater power is no smaller
pub power_grows : (z : ℤ) (b m n : ℕ) → 0 < b → m ≤ n → unsigned_abs (z *ℤ pos (b ^ m)) ≤ unsigned_abs (z *ℤ pos (b ^ n))
power_grows z b m n p h =
    rw (unsigned_abs-mul z (pos (b ^ m)), unsigned_abs-mul z (pos (b ^ n)))
    (mul-le (unsigned_abs z) (b ^ m) (unsigned_abs z) (b ^ n) (omega arith) (pow-le-pow_right p h))

pub next_power : (z : ℤ) (b m : ℕ) → z *ℤ pos (b ^ m) *ℤ pos b ≡ z *ℤ pos (b ^ (m + 1))
next_power z b m =
    ring (env (z ∷ pos (b ^ m) ∷ pos b ∷ [])) (times (times (var 0) (var 1)) (var 2)) (times (var 0) (times (var 1) (var 2))) refl
    ∙ ap (λ k. z *ℤ pos k) (sym (ap (λ k. b ^ k) (add-one m) ∙ pow-suc b m))

pub no_power : (z : ℤ) (b : ℕ) → z ≡ z *ℤ pos (b ^ 0)
no_power z b = sym (ap (λ k. z *ℤ pos k) (pow-zero b) ∙ ring (env (z ∷ [])) (times (var 0) (num (pos 1))) (var 0) refl)

pub both_powers : (z : ℤ) (m n : ℕ) → z *ℤ pos m *ℤ pos n ≡ z *ℤ pos (m * n)
both_powers z m n = ring (env (z ∷ pos m ∷ pos n ∷ [])) (times (times (var 0) (var 1)) (var 2)) (times (var 0) (times (var 1) (var 2))) refl

positive_power : (b k : ℕ) → 0 < b → 0 < b ^ k
positive_power b zero h = omega (arith, pow-zero b)
positive_power b (suc k) h = let e = pow-suc b k in let p = mul-le 1 1 (b ^ k) b (positive_power b k h) h in omega arith

pub product_grows : (z : ℤ) (m n : ℕ) → 0 < n → unsigned_abs (z *ℤ pos m) ≤ unsigned_abs (z *ℤ pos (m * n))
product_grows z m n h =
    rw (unsigned_abs-mul z (pos m), unsigned_abs-mul z (pos (m * n))) (mul-le (unsigned_abs z) m (unsigned_abs z) (m * n) (omega arith) (times_more m n h))
  where
    times_more : (m n : ℕ) → 0 < n → m ≤ m * n
    times_more m zero h = absurd (omega arith)
    times_more m (suc n) h = omega arith

pub power_positive : (b k : ℕ) → 0 < b → 0 < b ^ k
power_positive b k h = positive_power b k h

-- ---- delta in lowest terms
halved : (t : Bool) (n f : ℕ) → (n % 2 == 0) ≡ t → 0 < n → ((m : ℕ) → 0 < m → (0 < (dyadic m f).numerator) × (0 < (dyadic m f).denominator))
    → (0 < (dyadic n (suc f)).numerator) × (0 < (dyadic n (suc f)).denominator)
halved true n f e h ih = rw e (ih (n / 2) (grind (arith, nat_tests)))
halved false n f e h ih = rw e (h, pow_pos (suc f))

pub dyadic_positive : (n f : ℕ) → 0 < n → (0 < (dyadic n f).numerator) × (0 < (dyadic n f).denominator)
dyadic_positive n zero h = (h, omega arith)
dyadic_positive n (suc f) h = halved (n % 2 == 0) n f refl h (λ m p. dyadic_positive m f p)

even_test : (n : ℕ) → n % 2 ≡ 0 → (n % 2 == 0) ≡ true
even_test n h = grind (arith, nat_tests)

pub even_step : (n f k : ℕ) → f ≡ suc k → n % 2 ≡ 0 → dyadic (n / 2) k ≡ dyadic n f
even_step n f k e h = rw (e, even_test n h) refl

pub dyadic_of : (d : Dyadic) (a b : ℕ) → a ≡ d.numerator → b ≡ d.denominator → record { numerator = a; denominator = b } ≡ d
dyadic_of d a b e f = rw (e, f) refl

-- ---- the first that is too wide
pub wide_at : (z : ℤ) → None ≡ bounded z → is_too_wide z ≡ true
wide_at z e = grind (arith, nat_tests)

pub narrow_at : (z w : ℤ) → Some w ≡ bounded z → is_too_wide z ≡ false
narrow_at z w e = grind (arith, nat_tests)

pub next_narrow : (e : Vector) (j : ℕ) → first_wide e j ≡ None → is_too_wide (e j) ≡ false → first_wide e (j + 1) ≡ None
next_narrow e j h n = ap (first_wide e) (add-one j) ∙ rw (h, n) refl

pub first_at : (e : Vector) (j n : ℕ) → j < n → first_wide e j ≡ None → is_too_wide (e j) ≡ true → first_wide e n ≡ Some j
first_at e j zero p h w = absurd (omega arith)
first_at e j (suc n) p h w = elim (cases_lt j n) [
  | inl less ↦ rw (first_at e j n less h w) refl
  | inr more ↦ (let same : n ≡ j = omega arith in ap (λ k. first_wide e (suc k)) same ∙ rw (h, w) refl)
]

pub wide_list : (delta : Dyadic) (words : List ℤ) (j : ℕ) → first_wide (scaled delta (length words - 1) (vector_of words)) (length words) ≡ Some j
    → expansion delta words ≡ Err (record { index = j })
wide_list delta words j h = rw (h, expansion) refl

pub whole_list : (delta : Dyadic) (words xs : List ℤ) → first_wide (scaled delta (length words - 1) (vector_of words)) (length words) ≡ None
    → IsPart (scaled delta (length words - 1) (vector_of words)) (length words) xs → expansion delta words ≡ Ok xs
whole_list delta words xs h p =
    let e = scaled delta (length words - 1) (vector_of words) in
    rw (h, expansion) (ap Ok (sym (fill_by_all (z_coefficient (length words - 1) e) xs (length words) (pos 0) p.places p.values)))

list_case : (delta : Dyadic) (words xs : List ℤ) (o : Option ℕ) → first_wide (scaled delta (length words - 1) (vector_of words)) (length words) ≡ o → expansion delta words ≡ Ok xs
    → xs ≡ map (z_coefficient (length words - 1) (scaled delta (length words - 1) (vector_of words))) (range_with_len 0 (length words))
list_case delta words xs (Some j) h e = let wide = wide_list delta words j h in cc
list_case delta words xs None h e =
    let made : expansion delta words ≡ Ok (map (z_coefficient (length words - 1) (scaled delta (length words - 1) (vector_of words))) (range_with_len 0 (length words))) = rw (h, expansion) refl in
    cc

-- what an expansion gives
pub expanded_list : (delta : Dyadic) (words xs : List ℤ) → expansion delta words ≡ Ok xs
    → xs ≡ map (z_coefficient (length words - 1) (scaled delta (length words - 1) (vector_of words))) (range_with_len 0 (length words))
expanded_list delta words xs e = list_case delta words xs (first_wide (scaled delta (length words - 1) (vector_of words)) (length words)) refl e
