-- Rows of the recursion.
use Rattle.std.proofs.Common.{◌≡◌, suc, ◌-◌, ◌^◌, arith}
use Rattle.std.proofs.Math.IntN.{ℤ, pos, negsuc, ◌-ℤ◌, ◌*ℤ◌}
use Rattle.std.proofs.lemmas.Int.{ints, to_z-of_z}
use Rattle.std.proofs.lemmas.Nat.{mul-le}
use lib.Signed.{◌≤ℤ◌}
use mir.Syntax.{w64, w128}
use mir.Val.{SFits, to_z, of_z}

-- The bounds of a product of two words of 64 bits.
record IsSmallProduct (z : ℤ) : Type 0 where
  least : (pos 0 -ℤ pos (2 ^ 126 - 2 ^ 63)) ≤ℤ z
  most : z ≤ℤ pos (2 ^ 126)

small_product : (x y : ℤ) → SFits w64 x → SFits w64 y → IsSmallProduct (x *ℤ y)
small_product (pos a) (pos b) p q =
    let h = mul-le a b (2 ^ 63) (2 ^ 63) (omega (arith, ints)) (omega (arith, ints)) in
    record { least = omega (arith, ints); most = omega (arith, ints) }
small_product (pos a) (negsuc b) p q =
    let h = mul-le a (suc b) (2 ^ 63 - 1) (2 ^ 63) (omega (arith, ints)) (omega (arith, ints)) in
    record { least = omega (arith, ints); most = omega (arith, ints) }
small_product (negsuc a) (pos b) p q =
    let h = mul-le (suc a) b (2 ^ 63) (2 ^ 63 - 1) (omega (arith, ints)) (omega (arith, ints)) in
    record { least = omega (arith, ints); most = omega (arith, ints) }
small_product (negsuc a) (negsuc b) p q =
    let h = mul-le (suc a) (suc b) (2 ^ 63) (2 ^ 63) (omega (arith, ints)) (omega (arith, ints)) in
    record { least = omega (arith, ints); most = omega (arith, ints) }

pub product_fits : (x y : ℤ) → SFits w64 x → SFits w64 y → SFits w128 (x *ℤ y)
product_fits x y p q = let s = small_product x y p q in let least = s.least in let most = s.most in omega (arith, ints)

pub difference_fits : (a b c d : ℤ) → SFits w64 a → SFits w64 b → SFits w64 c → SFits w64 d → SFits w128 (a *ℤ b -ℤ c *ℤ d)
difference_fits a b c d p q r s =
    let x = small_product a b p q in let y = small_product c d r s in
    let u = x.least in let v = x.most in let w = y.least in let t = y.most in omega (arith, ints)

pub difference_is : (a b c d : ℤ) → SFits w64 a → SFits w64 b → SFits w64 c → SFits w64 d
    → to_z w128 (of_z w128 (to_z w128 (of_z w128 (to_z w128 (of_z w128 a) *ℤ to_z w128 (of_z w128 b))) -ℤ to_z w128 (of_z w128 (to_z w128 (of_z w128 c) *ℤ to_z w128 (of_z w128 d)))))
    ≡ a *ℤ b -ℤ c *ℤ d
difference_is a b c d p q r s =
    let fits : SFits w128 (a *ℤ b) = product_fits a b p q in
    let others : SFits w128 (c *ℤ d) = product_fits c d r s in
    let apart : SFits w128 (a *ℤ b -ℤ c *ℤ d) = difference_fits a b c d p q r s in
    rw (to_z-of_z w128 a (omega (arith, ints)), to_z-of_z w128 b (omega (arith, ints)), to_z-of_z w128 c (omega (arith, ints)), to_z-of_z w128 d (omega (arith, ints)), to_z-of_z w128 (a *ℤ b) fits, to_z-of_z w128 (c *ℤ d) others)
    (to_z-of_z w128 (a *ℤ b -ℤ c *ℤ d) apart)

pub difference_has_room : (a b c d : ℤ) → SFits w64 a → SFits w64 b → SFits w64 c → SFits w64 d
    → SFits w128 (to_z w128 (of_z w128 (to_z w128 (of_z w128 a) *ℤ to_z w128 (of_z w128 b))) -ℤ to_z w128 (of_z w128 (to_z w128 (of_z w128 c) *ℤ to_z w128 (of_z w128 d))))
difference_has_room a b c d p q r s =
    let fits : SFits w128 (a *ℤ b) = product_fits a b p q in
    let others : SFits w128 (c *ℤ d) = product_fits c d r s in
    rw (to_z-of_z w128 a (omega (arith, ints)), to_z-of_z w128 b (omega (arith, ints)), to_z-of_z w128 c (omega (arith, ints)), to_z-of_z w128 d (omega (arith, ints)), to_z-of_z w128 (a *ℤ b) fits, to_z-of_z w128 (c *ℤ d) others)
    (difference_fits a b c d p q r s)
