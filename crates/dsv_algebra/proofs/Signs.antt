-- Signs of products of integers.
use Rattle.std.proofs.Common.{◌≡◌, ◌≢◌, ℕ, ◌*◌, ◌<◌, zero, suc, refl, arith}
use Rattle.std.proofs.Math.IntN.{ℤ, pos, negsuc, ◌*ℤ◌}
use Rattle.std.proofs.lemmas.Int.{ints}
use lib.Signed.{◌<ℤ◌, ◌≤ℤ◌}

nat_mul : (a b : ℕ) → 0 < a → 0 < b → 0 < a * b
nat_mul zero b p q = elim p [ ]
nat_mul (suc a) zero p q = elim q [ ]
nat_mul (suc a) (suc b) p q = omega arith

pub mul_positive : (a b : ℤ) → pos 0 <ℤ a → pos 0 <ℤ b → pos 0 <ℤ (a *ℤ b)
mul_positive (pos a) (pos b) p q = let h : 0 < a * b = nat_mul a b (omega (arith, ints)) (omega (arith, ints)) in omega (arith, ints)
mul_positive (pos a) (negsuc b) p q = absurd (omega (arith, ints))
mul_positive (negsuc a) (pos b) p q = absurd (omega (arith, ints))
mul_positive (negsuc a) (negsuc b) p q = absurd (omega (arith, ints))

pub mul_not_negative : (a b : ℤ) → pos 0 ≤ℤ a → pos 0 ≤ℤ b → pos 0 ≤ℤ (a *ℤ b)
mul_not_negative (pos a) (pos b) p q = omega (arith, ints)
mul_not_negative (pos a) (negsuc b) p q = absurd (omega (arith, ints))
mul_not_negative (negsuc a) (pos b) p q = absurd (omega (arith, ints))
mul_not_negative (negsuc a) (negsuc b) p q = absurd (omega (arith, ints))

pub square_positive : (a : ℤ) → a ≢ pos 0 → pos 0 <ℤ (a *ℤ a)
square_positive (pos zero) n = absurd (n refl)
square_positive (pos (suc a)) n = omega (arith, ints)
square_positive (negsuc a) n = omega (arith, ints)

pub positive_factor : (m t : ℤ) → pos 0 <ℤ m → pos 0 <ℤ (m *ℤ t) → pos 0 <ℤ t
positive_factor (pos m) (pos zero) p q = absurd (let e : m * 0 ≡ 0 = omega arith in omega (arith, ints))
positive_factor (pos m) (pos (suc t)) p q = omega (arith, ints)
positive_factor (pos m) (negsuc t) p q = absurd (omega (arith, ints))
positive_factor (negsuc m) t p q = absurd (omega (arith, ints))

pub not_negative_factor : (m t : ℤ) → pos 0 <ℤ m → pos 0 ≤ℤ (m *ℤ t) → pos 0 ≤ℤ t
not_negative_factor (pos m) (pos t) p q = omega (arith, ints)
not_negative_factor (pos zero) (negsuc t) p q = absurd (omega (arith, ints))
not_negative_factor (pos (suc m)) (negsuc t) p q = absurd (omega (arith, ints))
not_negative_factor (negsuc m) t p q = absurd (omega (arith, ints))

pub mul_negative : (a b : ℤ) → pos 0 <ℤ a → b <ℤ pos 0 → (a *ℤ b) <ℤ pos 0
mul_negative (pos zero) b p q = absurd (omega (arith, ints))
mul_negative (pos (suc a)) (pos b) p q = absurd (omega (arith, ints))
mul_negative (pos (suc a)) (negsuc b) p q = omega (arith, ints)
mul_negative (negsuc a) b p q = absurd (omega (arith, ints))
