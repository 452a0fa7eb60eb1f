-- Orders of products, sums that are compared term by term, and stages that gave something.
use Rattle.std.proofs.Common.{◌≡◌, ℕ, zero, suc, ◌<◌, Bool, true, false, if◌then◌else◌, [], ◌∷◌, refl, ap, arith, rules}
use Rattle.std.specs.Prelude.{Option, Some, None, int_lt}
use Rattle.std.proofs.Math.IntN.{ℤ, pos, ◌-ℤ◌, ◌*ℤ◌, neg_ℤ}
use Rattle.std.proofs.lemmas.Int.{ints}
use lib.Signed.{◌<ℤ◌, ◌≤ℤ◌}
use Rattle.dsv_algebra.proofs.Normaliser.{ring, env, var, num, plus, times, minus}
use Rattle.dsv_algebra.proofs.Signs.{mul_not_negative, not_negative_factor}
use Rattle.dsv_algebra.specs.Narrow.{is_narrow, narrow_of}
use Rattle.dsv_algebra.specs.Vectors.{sum_to}
use Rattle.dsv_linear.specs.declared.range.Range.{Range}
use Rattle.dsv_linear.specs.Forms.{◌>>=◌, least_factor, greatest_factor}

spread : (a x y : ℤ) → a *ℤ (y -ℤ x) ≡ a *ℤ y -ℤ a *ℤ x
spread a x y = let p = var 0 in let q = var 1 in let r = var 2 in
    ring (env (a ∷ x ∷ y ∷ [])) (times p (plus r (minus q))) (plus (times p r) (minus (times p q))) refl

-- a product by a number that isn't negative keeps an order
pub times_up : (a x y : ℤ) → pos 0 ≤ℤ a → x ≤ℤ y → (a *ℤ x) ≤ℤ (a *ℤ y)
times_up a x y p h =
    let d : pos 0 ≤ℤ (y -ℤ x) = omega (arith, ints) in
    let m = rw (spread a x y) at (mul_not_negative a (y -ℤ x) p d) in omega (arith, ints)

pub times_down : (a x y : ℤ) → a ≤ℤ pos 0 → x ≤ℤ y → (a *ℤ y) ≤ℤ (a *ℤ x)
times_down a x y p h =
    let e : neg_ℤ a *ℤ y ≡ neg_ℤ (a *ℤ y) = ring (env (a ∷ y ∷ [])) (times (minus (var 0)) (var 1)) (minus (times (var 0) (var 1))) refl in
    let g : neg_ℤ a *ℤ x ≡ neg_ℤ (a *ℤ x) = ring (env (a ∷ x ∷ [])) (times (minus (var 0)) (var 1)) (minus (times (var 0) (var 1))) refl in
    let m = rw (e, g) at (times_up (neg_ℤ a) x y (omega (arith, ints)) h) in omega (arith, ints)

-- and may be taken away, if it is positive
pub times_back : (a x y : ℤ) → pos 0 <ℤ a → (a *ℤ x) ≤ℤ (a *ℤ y) → x ≤ℤ y
times_back a x y p h =
    let e = spread a x y in
    let m : pos 0 ≤ℤ (a *ℤ (y -ℤ x)) = omega (arith, ints) in
    let d = not_negative_factor a (y -ℤ x) p m in omega (arith, ints)

pub none_times : (u : ℤ) → pos 0 *ℤ u ≡ pos 0
none_times u = ring (env (u ∷ [])) (times (num (pos 0)) (var 0)) (num (pos 0)) refl

pub times_none : (u : ℤ) → u *ℤ pos 0 ≡ pos 0
times_none u = ring (env (u ∷ [])) (times (var 0) (num (pos 0))) (num (pos 0)) refl

pub sum_le : (n : ℕ) (f g : ℕ → ℤ) → ((j : ℕ) → j < n → f j ≤ℤ g j) → sum_to n f ≤ℤ sum_to n g
sum_le zero f g h = omega (arith, ints)
sum_le (suc n) f g h =
    let a = sum_le n f g (λ j p. h j (omega arith)) in
    let b = h n (omega arith) in omega (arith, ints)

-- ---- products of a number that isn't negative with a range
not_negative : (n : ℕ) → int_lt (pos n) (pos 0) ≡ false
not_negative n = search rules

pub least_up : (n : ℕ) (r : Range) → least_factor (pos n) r ≡ r.low
least_up n r = ap (λ b. if b then r.high else r.low) (not_negative n)

pub greatest_up : (n : ℕ) (r : Range) → greatest_factor (pos n) r ≡ r.high
greatest_up n r = ap (λ b. if b then r.low else r.high) (not_negative n)

-- ---- stages
pub some_of : {A B : Type 0} (o : Option A) (f : A → Option B) (y : B) → (o >>= f) ≡ Some y → (x : A) × (o ≡ Some x) × (f x ≡ Some y)
some_of None f y e = absurd cc
some_of (Some x) f y e = (x, refl, e)

narrow_cases : (b : Bool) (z x : ℤ) → (if b then Some z else None) ≡ Some x → x ≡ z
narrow_cases true z x e = cc
narrow_cases false z x e = absurd cc

-- a number that is narrow is the number
pub narrow_is : (z x : ℤ) → narrow_of z ≡ Some x → x ≡ z
narrow_is z x e = narrow_cases (is_narrow z) z x e
