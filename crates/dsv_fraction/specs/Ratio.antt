-- A fraction as contracts see it, and what is true of each `Frac`.
use Rattle.std.specs.Prelude.{ℕ, ◌^◌, ◌<◌, ℤ, pos}
use Rattle.std.specs.Int.RustNames.{unsigned_abs}
use Rattle.std.specs.Int.{IsGcd}

-- the least size that no part of a fraction may have
abbrev pub part_limit : ℕ
part_limit = 2 ^ 127

-- the most coefficients of a list of them
abbrev pub most_coefficients : ℕ
most_coefficients = 9

-- the number num / den
pub record Ratio : Type 0 where
  pub num : ℤ
  pub den : ℕ

abbrev pub zero : Ratio
zero = record { num = pos 0; den = 1 }

abbrev pub one : Ratio
one = record { num = pos 1; den = 1 }

-- in lowest terms, with a positive denominator and both parts below 2^127 in size
pub record IsLowest (r : Ratio) : Type 0 where
  pub positive : 0 < r.den
  pub coprime : IsGcd (unsigned_abs r.num) r.den 1
  pub narrow_num : unsigned_abs r.num < part_limit
  pub narrow_den : r.den < part_limit
