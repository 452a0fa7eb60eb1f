-- Serves private contracts: numbers whose products and sums of products need no test.
use Rattle.std.specs.Prelude.{ℕ, ◌*◌, ◌^◌, ◌<◌, ◌≤◌, ℤ, ◌*ℤ◌}
use Rattle.std.specs.Int.RustNames.{unsigned_abs}

-- the size below which numbers are small, and the most terms of a sum of their products
abbrev pub small_limit : ℕ
small_limit = 2 ^ 55

abbrev pub most_terms : ℕ
most_terms = 65535

-- the greatest size of a product of two small numbers
abbrev pub most_product : ℕ
most_product = 2 ^ 110

abbrev pub IsSmall : ℤ → Type 0
IsSmall z = unsigned_abs z < small_limit

-- the size below which a number's product with any of 64 bits is small
abbrev pub slight_limit : ℕ
slight_limit = 2 ^ 47

abbrev pub IsSlight : ℤ → Type 0
IsSlight z = unsigned_abs z < slight_limit

-- the sizes below which a wide number and another have a small product
abbrev pub IsMedium : ℤ → Type 0
IsMedium z = unsigned_abs z < 2 ^ 71

abbrev pub IsLight : ℤ → Type 0
IsLight z = unsigned_abs z < 2 ^ 39

abbrev pub IsSmallProduct : ℤ → ℤ → Type 0
IsSmallProduct c z = unsigned_abs (c *ℤ z) ≤ most_product

-- a sum to which a product may be added
abbrev pub HasRoom : ℤ → Type 0
HasRoom z = unsigned_abs z ≤ most_terms * most_product
