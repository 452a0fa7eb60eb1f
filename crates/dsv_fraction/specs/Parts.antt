-- For private contracts: pairs of sizes that stand for a fraction.
use Rattle.std.specs.Prelude.{◌≡◌, ℕ, ◌*◌, ◌<◌, Bool, not}
use Rattle.std.specs.Int.{IsGcd, ◌∣◌}
use mathlib.Core.Bool.{beq}
use Rattle.dsv_fraction.specs.Ratio.{Ratio, part_limit}
use Rattle.dsv_fraction.specs.Arithmetic.{with_sign, is_negative}

-- n / d is a fraction in lowest terms
pub record AreCoprime (n d : ℕ) : Type 0 where
  pub positive : 0 < d
  pub coprime : IsGcd n d 1

-- x / y is n / d in lowest terms
pub record Cancels (n d x y : ℕ) : Type 0 where
  pub positive : 0 < y
  pub coprime : IsGcd x y 1
  pub divides_num : x ∣ n
  pub divides_den : y ∣ d
  pub same : x * d ≡ n * y

-- the sign and the sizes of a fraction in lowest terms
pub record ArePartsOf (r : Ratio) (negative : Bool) (n d : ℕ) : Type 0 where
  pub same_num : r.num ≡ with_sign negative n
  pub same_den : r.den ≡ d
  pub sign : negative ≡ is_negative r.num
  pub lowest : AreCoprime n d
  pub narrow_num : n < part_limit
  pub narrow_den : d < part_limit

-- two truth values are not the same
abbrev pub differ : Bool → Bool → Bool
differ p q = not (beq p q)
