-- The intervals of the exact values of a line whose words lie in intervals.
use Rattle.std.specs.Prelude.{Bool, false, List, [], ◌∷◌, ◌++◌, if◌then◌else◌}
use Rattle.std.specs.Prelude.{ℤ, pos, neg_ℤ, ◌+ℤ◌, ◌-ℤ◌, ◌*ℤ◌, ◌≤ℤ◌, int_lt}
use Rattle.dsv_word.specs.declared.format.Format.{Format}
use Rattle.dsv_word.specs.Words.{IsWord}
use Rattle.dsv_word.specs.Quotients.{whole_shift}
use Rattle.dsv_quantiser.specs.QuantisedView.{QuantisedView}
use Rattle.dsv_meaning.specs.declared.summands.Summand.{Summand}
use Rattle.dsv_meaning.specs.declared.summands.Summand.TheVariants.{Times, Alone}
use Rattle.dsv_meaning.specs.Equations.{forward_summands, feedback_summands}
use Rattle.dsv_linear.specs.declared.range.Range.{Range}
use Rattle.dsv_linear.specs.Forms.{range}

-- v lies in the interval
pub record LiesIn (s : Range) (v : ℤ) : Type 0 where
  pub least : s.low ≤ℤ v
  pub most : v ≤ℤ s.high

-- the same, for a number and then its interval
abbrev pub HasInterval : ℤ → Range → Type 0
HasInterval v s = LiesIn s v

-- all numbers of the interval are words
pub record AreWords (f : Format) (s : Range) : Type 0 where
  pub low : IsWord f s.low
  pub high : IsWord f s.high

abbrev pub lesser : ℤ → ℤ → ℤ
lesser a b = if int_lt b a then b else a

abbrev pub greater : ℤ → ℤ → ℤ
greater a b = if int_lt a b then b else a

-- the interval between two numbers
abbrev pub between : ℤ → ℤ → Range
between a b = range (lesser a b) (greater a b)

-- a product's ends are its rounded values at the ends
abbrev pub product_interval : Format → ℤ → Range → Range
product_interval f c s = between
    (whole_shift f.rounding f.frac_bits (c *ℤ s.low))
    (whole_shift f.rounding f.frac_bits (c *ℤ s.high))

-- sums and differences add and subtract ends
abbrev pub joined_interval : Bool → Range → Range → Range
joined_interval away s t =
    if away then range (s.low -ℤ t.high) (s.high -ℤ t.low)
    else range (s.low +ℤ t.low) (s.high +ℤ t.high)

-- the intervals of the exact values of the summands after the first, where the value so far lies in
-- the interval
abbrev pub later_intervals : Format → Range → List (Summand Range) → List Range
later_intervals f s [] = []
later_intervals f s (Times away c w ∷ ts) =
    let p = product_interval f c w in
    let t = joined_interval away s p in
    p ∷ t ∷ later_intervals f t ts
later_intervals f s (Alone w ∷ ts) =
    let t = joined_interval false s w in
    t ∷ later_intervals f t ts

-- the intervals of a line's exact values, in their order
abbrev pub line_intervals : Format → List (Summand Range) → List Range
line_intervals f [] = []
line_intervals f (Times away c w ∷ ts) =
    let p = product_interval f c w in
    p ∷ later_intervals f p ts
line_intervals f (Alone w ∷ ts) = later_intervals f w ts

-- the inputs, and 0 before them
abbrev pub input_interval : QuantisedView → Range
input_interval q = range (lesser q.xlo (pos 0)) (greater q.xhi (pos 0))

abbrev pub output_interval : ℤ → Range
output_interval bound = range (neg_ℤ bound) bound

-- the intervals of the exact values of a sample of the direct form I, where no output so far passes
-- the bound in size
abbrev pub sample_intervals : QuantisedView → ℤ → List Range
sample_intervals q bound = line_intervals q.format
    (forward_summands q (λ i. input_interval q)
    ++ feedback_summands q (λ i. output_interval bound) 0)
