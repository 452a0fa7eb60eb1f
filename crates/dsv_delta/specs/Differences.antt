-- For private contracts: numbers below a bound, and polynomials times z - 1.
use Rattle.std.specs.Prelude.{nat_lt, if◌then◌else◌, List, [], ◌∷◌, Option, Some, None}
use Rattle.std.specs.Prelude.{ℤ, ◌-ℤ◌}
use Rattle.std.specs.Int.RustNames.{unsigned_abs}
use Rattle.dsv_delta.specs.ZCoefficients.{scaled_limit}

-- the number, where it doesn't pass 2^110
abbrev pub bounded : ℤ → Option ℤ
bounded z = if nat_lt (unsigned_abs z) scaled_limit then Some z else None

-- the coefficients of (z - 1) q + e after the coefficient `before` of q, whose others are these
abbrev pub differences : ℤ → List ℤ → ℤ → List ℤ
differences before [] e = (e -ℤ before) ∷ []
differences before (x ∷ xs) e = (x -ℤ before) ∷ differences x xs e
