-- Serves private contracts: numbers that are small, and lines that are walked summand by summand.
use Rattle.std.specs.Prelude.{◌≡◌, ◌+◌, Bool, List, [], ◌∷◌, ◌++◌, map, Option, Some}
use Rattle.std.specs.Prelude.{Result, Ok, Err, ℤ}
use Rattle.dsv_word.specs.declared.format.Format.{Format}
use Rattle.dsv_meaning.specs.declared.summands.Summand.{Summand}
use Rattle.dsv_meaning.specs.declared.summands.Summand.TheVariants.{Times}
use Rattle.dsv_meaning.specs.Summands.{IsSmallNumber}
use Rattle.dsv_linear.specs.declared.range.Range.{Range}
use Rattle.dsv_ellipsoid.specs.declared.refusal.EllipsoidRefusal.{EllipsoidRefusal}
use Rattle.dsv_ellipsoid.specs.declared.intervals.Walk.{Walk}
use Rattle.dsv_ellipsoid.specs.Intervals.{product_interval, joined_interval, later_intervals}
use Rattle.dsv_forms.specs.Refusals.{first_of}
use Rattle.dsv_ellipsoid.specs.Refusals.{Test, interval_tests}

-- both ends are no greater in size than words can be
pub record HasSmallEnds (r : Range) : Type 0 where
  pub low : IsSmallNumber r.low
  pub high : IsSmallNumber r.high

-- the line after its first product
abbrev pub first_walk : Format → ℤ → Range → Walk
first_walk f c x = record { value = 1; sum = product_interval f c x }

-- the line with a product more
abbrev pub walk_with : Format → Bool → ℤ → Range → Walk → Walk
walk_with f away c x w =
    record { value = w.value + 2; sum = joined_interval away w.sum (product_interval f c x) }

-- the tests of a product's two exact values
abbrev pub product_tests : Format → Bool → ℤ → Range → Walk → List Test
product_tests f away c x w = let p = product_interval f c x in
    interval_tests f w.value (p ∷ joined_interval away w.sum p ∷ [])

-- the products of coefficients with numbers of one interval
abbrev pub products : Bool → List ℤ → Range → List (Summand Range)
products away cs x = map (λ c. Times away c x) cs

-- the tests of the exact values of what follows
abbrev pub later_tests : Format → Walk → List (Summand Range) → List Test
later_tests f w ts = interval_tests f w.value (later_intervals f w.sum ts)

-- the refusal, or the first one of what follows
abbrev pub refusal_then : Format → Result Walk EllipsoidRefusal → List (Summand Range)
    → Option EllipsoidRefusal
refusal_then f (Ok w) ts = first_of (later_tests f w ts)
refusal_then f (Err r) ts = Some r

-- where the products are walked, what is found is the first refusal, whatever follows
abbrev pub IsWalked : Format → List (Summand Range) → Walk → Result Walk EllipsoidRefusal → Type 0
IsWalked f ps w result = (rest : List (Summand Range))
    → first_of (later_tests f w (ps ++ rest)) ≡ refusal_then f result rest
