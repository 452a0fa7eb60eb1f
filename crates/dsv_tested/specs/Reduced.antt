-- Numbers whose common power of two is taken out.
use Rattle.std.specs.Prelude.{◌≡◌, ◌≢◌, ℕ, ◌^◌, List, map, Any, ℤ, pos, ◌*ℤ◌}

-- z isn't twice a number
abbrev pub IsOdd : ℤ → Type 0
IsOdd z = (h : ℤ) → z ≢ pos 2 *ℤ h

-- ys are the numbers xs with the greatest power of two that divides all of them taken out.
pub record IsReduced (xs ys : List ℤ) : Type 0 where
  pub power : ℕ
  pub same : xs ≡ map (λ y. pos (2 ^ power) *ℤ y) ys
  pub odd : Any IsOdd ys
