-- Even numbers and their halves.
use Rattle.std.proofs.Common.{◌≡◌, ℕ, suc, ◌*◌, ◌%◌, ◌==◌, Bool, true, false, ap, ◌∙◌, arith}
use Rattle.std.proofs.Math.IntN.{ℤ, pos, negsuc, neg_ℤ, ◌*ℤ◌}
use Rattle.std.proofs.lemmas.Int.{ints, unsigned_abs-mul}
use Rattle.std.proofs.lemmas.Bool.Decides.{nat_tests}
use Rattle.std.specs.Int.{int_div_euclid}
use Rattle.std.specs.Int.RustNames.{unsigned_abs}
use Rattle.dsv_tested.specs.Reduced.{IsOdd}

abbrev pub is_even : ℤ → Bool
is_even c = unsigned_abs c % 2 == 0

abbrev pub half : ℤ → ℤ
half c = int_div_euclid c (pos 2)

rest_of_even : (n : ℕ) → (n % 2 == 0) ≡ true → n % 2 ≡ 0
rest_of_even n e = grind (arith, nat_tests)

-- an even number is twice its half
pub even_twice : (c : ℤ) → is_even c ≡ true → c ≡ pos 2 *ℤ half c
even_twice (pos n) e = let r = rest_of_even n e in omega (arith, ints)
even_twice (negsuc n) e = let r = rest_of_even (suc n) e in omega (arith, ints)

double_size : (x : ℤ) → unsigned_abs (pos 2 *ℤ x) ≡ 2 * unsigned_abs x
double_size x = unsigned_abs-mul (pos 2) x

pub half_size : (c : ℤ) → is_even c ≡ true → unsigned_abs c ≡ 2 * unsigned_abs (half c)
half_size c e = ap unsigned_abs (even_twice c e) ∙ double_size (half c)

pub size-neg : (c : ℤ) → unsigned_abs (neg_ℤ c) ≡ unsigned_abs c
size-neg c = omega (arith, ints)

pub is_even-neg : (c : ℤ) → is_even (neg_ℤ c) ≡ is_even c
is_even-neg c = ap (λ n. n % 2 == 0) (size-neg c)

opposite_half : (c h k : ℤ) → c ≡ pos 2 *ℤ h → neg_ℤ c ≡ pos 2 *ℤ k → k ≡ neg_ℤ h
opposite_half c h k e f = omega (arith, ints)

pub half-neg : (c : ℤ) → is_even c ≡ true → half (neg_ℤ c) ≡ neg_ℤ (half c)
half-neg c e = opposite_half c (half c) (half (neg_ℤ c)) (even_twice c e) (even_twice (neg_ℤ c) (is_even-neg c ∙ e))

-- a number that isn't even is odd
pub odd_is : (c : ℤ) → is_even c ≡ false → IsOdd c
odd_is c e h is = let two = ap unsigned_abs is ∙ double_size h in odd (unsigned_abs c) (unsigned_abs h) e two
  where
    odd : (n m : ℕ) → (n % 2 == 0) ≡ false → n ≡ 2 * m → ⊥
    odd n m e f = grind (arith, nat_tests)
