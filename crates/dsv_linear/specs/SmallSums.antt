-- Serves private contracts: sums of small products, of some of a form's terms.
use Rattle.std.specs.Prelude.{◌≡◌, ℕ, ◌+◌, ◌<◌, ◌≤◌, List, ℤ}
use Rattle.std.specs.Int.RustNames.{unsigned_abs}
use Rattle.dsv_algebra.specs.Vectors.{sum_to}
use Rattle.dsv_linear.specs.declared.range.Range.{Range}
use Rattle.dsv_linear.specs.Forms.{least_term, greatest_term}
use Rattle.dsv_linear.specs.SmallNumbers.{most_product}

-- the sum of so many numbers, each small as a product
pub record IsSum (f : ℕ → ℤ) (count : ℕ) (sum : ℤ) : Type 0 where
  pub value : sum ≡ sum_to count f
  pub each : (i : ℕ) → i < count → unsigned_abs (f i) ≤ most_product

-- the least and the greatest sum of so many terms from one on
pub record AreSums (ranges : List Range) (form : List ℤ) (from count : ℕ) (sums : Range) :
    Type 0 where
  pub low : IsSum (λ i. least_term ranges form (from + i)) count sums.low
  pub high : IsSum (λ i. greatest_term ranges form (from + i)) count sums.high
