-- Polynomials with whole coefficients, the leading one first.
use Rattle.std.specs.Prelude.{ℕ, ◌-◌, ◌<◌, ◌≤◌, ◌^◌, List, length}
use Rattle.std.specs.Prelude.{All, ℤ, pos, ◌<ℤ◌, slice_index_or}
use Rattle.std.specs.Int.RustNames.{unsigned_abs}

-- the most coefficients of a polynomial
abbrev pub most_coefficients : ℕ
most_coefficients = 9

-- the greatest order of a polynomial, the most places of a form
abbrev pub greatest_order : ℕ
greatest_order = 8

-- the order of a polynomial
abbrev pub degree : List ℤ → ℕ
degree poly = length poly - 1

-- the greatest size of a coefficient
abbrev pub greatest_coefficient : ℕ
greatest_coefficient = 2 ^ 44

-- one to nine coefficients, none over 2^44 in size, the first of them positive
pub record IsPoly (c : List ℤ) : Type 0 where
  pub some : 0 < length c
  pub few : length c ≤ most_coefficients
  pub first : pos 0 <ℤ slice_index_or c 0 (pos 0)
  pub small : All (λ z. unsigned_abs z ≤ greatest_coefficient) c
