-- The greatest common factor of whole numbers.
use Rattle.std.specs.Prelude.{ℕ, List, [], ◌∷◌, map, ℤ, pos}
use Rattle.std.specs.Int.RustNames.{unsigned_abs, int_div}
use Rattle.dsv_algebra.specs.Gcd.{gcd}

-- the greatest common factor of a number and of the numbers' sizes
abbrev pub factor_with : ℕ → List ℤ → ℕ
factor_with factor [] = factor
factor_with factor (x ∷ xs) = factor_with (gcd factor (unsigned_abs x)) xs

-- the greatest common factor of the numbers' sizes
abbrev pub common_factor : List ℤ → ℕ
common_factor xs = factor_with 0 xs

-- the numbers divided by their greatest common factor
abbrev pub lowest_terms : List ℤ → List ℤ
lowest_terms xs = map (λ x. int_div x (pos (common_factor xs))) xs
