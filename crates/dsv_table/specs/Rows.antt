-- What the rows that are computed have to do with a table. Private contracts alone cite this.
use Rattle.std.specs.Prelude.{◌≡◌, ℕ, ◌+◌, ◌-◌, ◌<◌, List, length, ℤ, pos, ◌*ℤ◌, ◌<ℤ◌}
use Rattle.dsv_algebra.specs.Vectors.{vector_of}
use Rattle.dsv_table.specs.Table.{row_after}

-- the cross differences of a row: one number fewer
pub record AreDifferences (row next : List ℤ) : Type 0 where
  pub places : length next + 1 ≡ length row
  pub same : (i : ℕ) → i + 1 < length row
      → vector_of next i ≡ row_after (length row - 1) (vector_of row) i

-- the quotients of numbers
pub record AreQuotients (numbers : List ℤ) (divisor : ℤ) (quotients : List ℤ) : Type 0 where
  pub places : length quotients ≡ length numbers
  pub same : (i : ℕ) → i < length numbers
      → vector_of quotients i *ℤ divisor ≡ vector_of numbers i

-- the numbers without a positive factor of all of them
pub record AreShorter (numbers shorter : List ℤ) : Type 0 where
  pub factor : ℤ
  pub positive : pos 0 <ℤ factor
  pub quotients : AreQuotients numbers factor shorter
