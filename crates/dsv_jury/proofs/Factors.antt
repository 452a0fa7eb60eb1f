-- Greatest common factors.
use Rattle.std.proofs.Common.{ℕ, zero, suc, ◌<◌, List, [], ◌∷◌, arith}
use Rattle.std.specs.Int.{◌∣◌}
use Rattle.std.specs.Int.RustNames.{unsigned_abs}
use Rattle.std.proofs.Math.IntN.{ℤ}
use Rattle.std.proofs.Math.Nat.{eq-zero_of_zero-dvd}
use Rattle.std.proofs.lemmas.Nat.Gcd.{dvd_refl, dvd_trans, dvd-zero}
use Rattle.dsv_algebra.specs.Vectors.{vector_of}
use Rattle.dsv_algebra.specs.Gcd.{gcd}
use Rattle.dsv_algebra.proofs.Gcds.{gcd-is}
use Rattle.dsv_jury.specs.CommonFactor.{factor_with, common_factor}

factor_divides_first : (g : ℕ) (xs : List ℤ) → factor_with g xs ∣ g
factor_divides_first g [] = dvd_refl g
factor_divides_first g (x ∷ xs) = dvd_trans (factor_with (gcd g (unsigned_abs x)) xs) (factor_divides_first (gcd g (unsigned_abs x)) xs) (gcd-is g (unsigned_abs x)).0

-- the common factor divides each number
pub factor_divides : (g : ℕ) (xs : List ℤ) (i : ℕ) → factor_with g xs ∣ unsigned_abs (vector_of xs i)
factor_divides g [] i = dvd-zero g
factor_divides g (x ∷ xs) zero = dvd_trans (factor_with (gcd g (unsigned_abs x)) xs) (factor_divides_first (gcd g (unsigned_abs x)) xs) (gcd-is g (unsigned_abs x)).1
factor_divides g (x ∷ xs) (suc i) = factor_divides (gcd g (unsigned_abs x)) xs i

-- what divides each number divides the common factor
pub factor_greatest : (g : ℕ) (xs : List ℤ) (k : ℕ) → k ∣ g → ((i : ℕ) → k ∣ unsigned_abs (vector_of xs i)) → k ∣ factor_with g xs
factor_greatest g [] k p h = p
factor_greatest g (x ∷ xs) k p h = factor_greatest (gcd g (unsigned_abs x)) xs k ((gcd-is g (unsigned_abs x)).2 k p (h 0)) (λ i. h (suc i))

positive_divisor : (f n : ℕ) → f ∣ n → 0 < n → 0 < f
positive_divisor zero n h p = let e = eq-zero_of_zero-dvd h in omega arith
positive_divisor (suc f) n h p = omega arith

pub factor_positive : (xs : List ℤ) (i : ℕ) → 0 < unsigned_abs (vector_of xs i) → 0 < common_factor xs
factor_positive xs i h = positive_divisor (common_factor xs) (unsigned_abs (vector_of xs i)) (factor_divides 0 xs i) h
