-- Numbers that types hold.
use Rattle.std.proofs.Common.{◌≡◌, ℕ, ◌-◌, ◌^◌, ◌<◌, ◌≤◌, true, false, inl, inr, refl, ap, ◌∙◌, arith}
use Rattle.std.specs.Prelude.{Option, Some, int_lt, nat_lt}
use Rattle.std.specs.Option.{option_and_then}
use Rattle.std.specs.Int.RustNames.{unsigned_abs}
use Rattle.std.proofs.Math.IntN.{ℤ, pos, negsuc, neg_ℤ}
use Rattle.std.proofs.Math.Nat.{pow-le-pow_right}
use Rattle.std.proofs.lemmas.Int.{ints}
use Rattle.std.proofs.lemmas.Bool.{cases_lt}
use lib.Signed.{◌<ℤ◌, ◌≤ℤ◌}
use Rattle.dsv_c.specs.declared.c_type.CType.{CType}
use Rattle.dsv_c.specs.declared.c_type.CType.TheVariants.{Int, Int32, Int64}
use Rattle.dsv_c.specs.Meaning.{CValue, c_value, bits, limit, wider_type, in_type, constant, operation, conversion}

pub int_lt-true : (a b : ℤ) → a <ℤ b → int_lt a b ≡ true
int_lt-true a b h = grind (arith, ints)

pub int_lt-false : (a b : ℤ) → b ≤ℤ a → int_lt a b ≡ false
int_lt-false a b h = grind (arith, ints)

pub nat_lt-true : (a b : ℕ) → a < b → nat_lt a b ≡ true
nat_lt-true a b h = grind arith

-- the type holds v
pub record IsHeld (t : CType) (v : ℤ) : Type 0 where
  pub low : neg_ℤ (pos (limit t)) ≤ℤ v
  pub high : v <ℤ pos (limit t)

pub held_is : (t : CType) (v : ℤ) → IsHeld t v → in_type t v ≡ Some (c_value t v)
held_is t v h = rw (int_lt-false v (neg_ℤ (pos (limit t))) h.low, int_lt-true v (pos (limit t)) h.high) refl

pub size_held : (t : CType) (v : ℤ) → unsigned_abs v < limit t → IsHeld t v
size_held t (pos n) h = record { low = omega (arith, ints); high = omega (arith, ints) }
size_held t (negsuc n) h = record { low = omega (arith, ints); high = omega (arith, ints) }

-- ---- the wider_type of two types
pub left_wider : (a b : CType) → limit a ≤ limit (wider_type a b)
left_wider Int Int = omega arith
left_wider Int Int32 = omega arith
left_wider Int Int64 = omega arith
left_wider Int32 Int = omega arith
left_wider Int32 Int32 = omega arith
left_wider Int32 Int64 = omega arith
left_wider Int64 b = omega arith

pub wider_bits : (t : CType) → bits t ≤ bits (wider_type t t)
wider_bits Int = omega arith
wider_bits Int32 = omega arith
wider_bits Int64 = omega arith

pub limit_bits : (t : CType) → limit t ≡ 2 ^ (bits t - 1)
limit_bits Int = refl
limit_bits Int32 = refl
limit_bits Int64 = refl

pub bits_some : (t : CType) → 1 ≤ bits t
bits_some Int = omega arith
bits_some Int32 = omega arith
bits_some Int64 = omega arith

-- ---- powers
pub power_order : (k m : ℕ) → 2 ^ k < 2 ^ m → k < m
power_order k m h = elim (cases_lt k m) [
  | inl less ↦ less
  | inr more ↦ (let e : 2 ^ m ≤ 2 ^ k = pow-le-pow_right (omega arith) more in absurd (omega arith))
]

-- ---- constants
pub constant_is : (c : ℤ) → unsigned_abs c < limit Int64 → constant c ≡ Some (c_value Int c)
constant_is c h = rw (nat_lt-true (unsigned_abs c) (limit Int64) h) refl

-- ---- what is stuck nowhere
pub then_is : {A B : Type 0} (f : A → Option B) (a : Option A) (u : A) → a ≡ Some u → option_and_then f a ≡ f u
then_is f a u p = ap (option_and_then f) p

pub converted_is : (t s : CType) (v : ℤ) (a : Option CValue) → a ≡ Some (c_value s v) → IsHeld t v → conversion t a ≡ Some (c_value t v)
converted_is t s v a p h = ap (conversion t) p ∙ held_is t v h

pub operation_is : (f : ℤ → ℤ → ℤ) (a b : Option CValue) (s t : CType) (u v : ℤ) → a ≡ Some (c_value s u) → b ≡ Some (c_value t v)
    → IsHeld (wider_type s t) (f u v) → operation f a b ≡ Some (c_value (wider_type s t) (f u v))
operation_is f a b s t u v p q h = rw (p, q) (held_is (wider_type s t) (f u v) h)
