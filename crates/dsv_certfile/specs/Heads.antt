-- Scaffolding, which private contracts alone cite: the numbers of a kind line.
use Rattle.std.specs.Prelude.{◌≤◌}
use Rattle.dsv_certfile.specs.Limits.{most_gain_depth, most_box_ranges, most_places}
use Rattle.dsv_certfile.specs.Limits.{most_coefficients}
use Rattle.dsv_template.specs.Limits.{most_inequalities}
use Rattle.dsv_certfile.specs.declared.kind.KindHead.{KindHead}
use Rattle.dsv_certfile.specs.declared.kind.KindHead.TheVariants as head

-- the numbers are within their ranges
abbrev pub IsHead : KindHead → Type 0
IsHead head.Hints = Unit {0}
IsHead (head.Invariant depth count) = count ≤ most_inequalities
IsHead (head.Gain depth) = depth ≤ most_gain_depth
IsHead (head.Error depth error_depth count) = (depth ≤ most_gain_depth)
    × (error_depth ≤ most_gain_depth) × (count ≤ most_box_ranges)
IsHead (head.Falls d) = d ≤ most_places
IsHead (head.Table count) = (1 ≤ count) × (count ≤ most_coefficients)
