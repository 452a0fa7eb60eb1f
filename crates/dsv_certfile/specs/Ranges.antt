-- Scaffolding, which private contracts alone cite: numbers that were read are of their ranges.
use Rattle.std.specs.Prelude.{◌≤◌, List, [], ◌∷◌, ℤ, pos, ◌≤ℤ◌}
use Rattle.std.specs.Int.RustNames.{unsigned_abs}
use Rattle.dsv_certfile.specs.Limits.{greatest_entry, greatest_bound, greatest_whole}
use Rattle.dsv_certfile.specs.declared.numbers.NumberRange.{NumberRange}
use Rattle.dsv_certfile.specs.declared.numbers.NumberRange.TheVariants as range
use Rattle.dsv_certfile.specs.declared.places.Place.{Place}
use Rattle.dsv_certfile.specs.declared.places.Place.TheVariants as place

abbrev pub IsOf : NumberRange → ℤ → Type 0
IsOf (range.UpTo greatest) z = (pos 0 ≤ℤ z) × (unsigned_abs z ≤ greatest)
IsOf (range.Positive greatest) z = (pos 1 ≤ℤ z) × (unsigned_abs z ≤ greatest)
IsOf range.Entry z = unsigned_abs z ≤ greatest_entry
IsOf range.Bound z = unsigned_abs z ≤ greatest_bound
IsOf range.Whole z = unsigned_abs z ≤ greatest_whole

-- a number for each place that wants one, in their order, each of its range
abbrev pub AreOf : List Place → List ℤ → Type 0
AreOf [] [] = Unit {0}
AreOf [] (z ∷ zs) = ⊥
AreOf (place.Word w ∷ ps) zs = AreOf ps zs
AreOf (place.Number r ∷ ps) [] = ⊥
AreOf (place.Number r ∷ ps) (z ∷ zs) = IsOf r z × AreOf ps zs
