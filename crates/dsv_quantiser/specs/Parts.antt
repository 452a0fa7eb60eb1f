-- Serves private contracts: what the words of a list and the ends of a range mean, before they are
-- put together.
use Rattle.std.specs.Prelude.{◌≡◌, ℕ, ◌+◌, ◌<◌, ◌↔◌, List, length}
use Rattle.std.specs.Prelude.{ℤ, pos, ◌≤ℤ◌, slice_index_or}
use Rattle.dsv_fraction.specs.Ratio.{Ratio, zero}
use Rattle.dsv_word.specs.declared.format.Format.{Format}
use Rattle.dsv_word.specs.Words.{width, lo, hi, IsWord}
use Rattle.dsv_quantiser.specs.declared.range.InputRange.{InputRange}
use Rattle.dsv_quantiser.specs.Meaning.{IsWordOf}

-- the words of the fractions after those of a prefix
pub record AreWordsOf (format : Format) (qs : List Ratio) (prefix words : List ℤ) : Type 0 where
  pub places : length words ≡ length prefix + length qs
  pub same : (k : ℕ) → k < length prefix
      → slice_index_or words k (pos 0) ≡ slice_index_or prefix k (pos 0)
  pub each : (k : ℕ) → k < length qs
      → IsWordOf format (slice_index_or qs k zero)
      (slice_index_or words (length prefix + k) (pos 0))

-- the range is not empty, and it has the words from low to high, and no others
pub record IsClamped (format : Format) (low high : ℤ) (r : InputRange) : Type 0 where
  pub low_end : lo (width format) ≤ℤ r.lo
  pub order : r.lo ≤ℤ r.hi
  pub high_end : r.hi ≤ℤ hi (width format)
  pub inputs : (w : ℤ) → IsWord format w → (r.lo ≤ℤ w) × (w ≤ℤ r.hi)
      ↔ (low ≤ℤ w) × (w ≤ℤ high)
