-- Serves private contracts: the plain intervals of sums and differences.
use Rattle.std.specs.Prelude.{ℕ, List, Option}
use Rattle.dsv_linear.specs.declared.point.Estimate.{Estimate}
use Rattle.dsv_linear.specs.declared.range.Range.{Range}
use Rattle.dsv_linear.specs.Forms.{◌>>=◌, sums_range, differences_range}
use Rattle.dsv_linear.specs.Known.{interval_at}

abbrev pub sum_interval : List Estimate → ℕ → ℕ → Option Range
sum_interval estimates left right = interval_at estimates left >>= λ r.
    interval_at estimates right >>= λ s. sums_range r s

abbrev pub difference_interval : List Estimate → ℕ → ℕ → Option Range
difference_interval estimates left right = interval_at estimates left >>= λ r.
    interval_at estimates right >>= λ s. differences_range r s
