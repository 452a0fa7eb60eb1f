-- Numbers by their sign and size.
use Rattle.std.proofs.Common.{◌≡◌, ℕ, zero, suc, ◌*◌, Bool, true, false, refl, arith}
use Rattle.std.specs.Int.RustNames.{unsigned_abs}
use Rattle.std.proofs.Math.IntN.{ℤ, pos, negsuc, ◌*ℤ◌}
use Rattle.std.proofs.lemmas.Int.{ints}
use lib.Signed.{lt_z}
use Rattle.dsv_algebra.proofs.Ring.{Is, same, is_mul, is_neg, is_self}
use Rattle.dsv_fraction.specs.Arithmetic.{with_sign, is_negative}
use Rattle.dsv_fraction.specs.Parts.{differ}

pub size_signed : (b : Bool) (n : ℕ) → unsigned_abs (with_sign b n) ≡ n
size_signed true zero = refl
size_signed true (suc n) = omega (arith, ints)
size_signed false n = refl

signed_is : (b : Bool) (n : ℕ) → Is (with_sign b n) (elim b [ true ↦ 0 | false ↦ n ]) (elim b [ true ↦ n | false ↦ 0 ])
signed_is true n = is_neg (is_self (pos n))
signed_is false n = is_self (pos n)

pub signed_mul : (p q : Bool) (a c : ℕ) → with_sign p a *ℤ with_sign q c ≡ with_sign (differ p q) (a * c)
signed_mul true true a c = same (is_mul (signed_is true a) (signed_is true c)) (signed_is false (a * c)) (omega arith)
signed_mul true false a c = same (is_mul (signed_is true a) (signed_is false c)) (signed_is true (a * c)) (omega arith)
signed_mul false true a c = same (is_mul (signed_is false a) (signed_is true c)) (signed_is true (a * c)) (omega arith)
signed_mul false false a c = same (is_mul (signed_is false a) (signed_is false c)) (signed_is false (a * c)) (omega arith)

-- equal products of sizes are equal products of the numbers
pub signed_same : (b : Bool) (m d x y : ℕ) → x * d ≡ m * y → with_sign b x *ℤ pos d ≡ with_sign b m *ℤ pos y
signed_same true m d x y e = same (is_mul (signed_is true x) (is_self (pos d))) (is_mul (signed_is true m) (is_self (pos y))) (omega arith)
signed_same false m d x y e = same (is_mul (signed_is false x) (is_self (pos d))) (is_mul (signed_is false m) (is_self (pos y))) (omega arith)

pub negative_is : (z : ℤ) → lt_z z (pos 0) ≡ is_negative z
negative_is (pos n) = grind (arith, ints)
negative_is (negsuc n) = refl

pub signed_abs : (z : ℤ) → z ≡ with_sign (is_negative z) (unsigned_abs z)
signed_abs (pos n) = refl
signed_abs (negsuc n) = omega (arith, ints)
