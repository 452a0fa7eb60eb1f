-- What a sample of the direct form I adds to the linear step: the inputs' part and all errors.
use Rattle.std.specs.Prelude.{ℕ, ◌^◌, Bool, not, if◌then◌else◌, List, [], ◌∷◌}
use Rattle.std.specs.Prelude.{ℤ, pos, ◌+ℤ◌, ◌-ℤ◌, ◌*ℤ◌}
use Rattle.std.specs.Int.{int_rem_euclid}
use Rattle.std.specs.Ordering.{int_eq}
use Rattle.dsv_algebra.specs.Squares.{size}
use Rattle.dsv_word.specs.declared.format.Format.{Format}
use Rattle.dsv_quantiser.specs.QuantisedView.{QuantisedView}
use Rattle.dsv_linear.specs.Known.{error_range}
use Rattle.dsv_meaning.specs.Equations.{feedback}
use Rattle.dsv_linear.specs.declared.range.Range.{Range}
use Rattle.dsv_linear.specs.Forms.{range}
use Rattle.dsv_ellipsoid.specs.Intervals.{between, greater, input_interval}

-- no multiple of 2^f
abbrev pub is_rough : ℕ → ℤ → Bool
is_rough f c = not (int_eq (int_rem_euclid c (pos (2 ^ f))) (pos 0))

abbrev pub one_if : Bool → ℤ
one_if b = if b then pos 1 else pos 0

-- how many of the numbers aren't multiples of 2^f
abbrev pub roughs : ℕ → List ℤ → ℤ
roughs f [] = pos 0
roughs f (c ∷ cs) = one_if (is_rough f c) +ℤ roughs f cs

-- the sums of the least and of the greatest values of c w, where each w lies in the interval
abbrev pub least_sum : List ℤ → Range → ℤ
least_sum [] s = pos 0
least_sum (c ∷ cs) s = (between (c *ℤ s.low) (c *ℤ s.high)).low +ℤ least_sum cs s

abbrev pub greatest_sum : List ℤ → Range → ℤ
greatest_sum [] s = pos 0
greatest_sum (c ∷ cs) s = (between (c *ℤ s.low) (c *ℤ s.high)).high +ℤ greatest_sum cs s

-- the disturbance of a line of products of inputs, which are added, and of outputs, which are taken
-- away
abbrev pub line_disturbance : Format → List ℤ → List ℤ → Range → Range
line_disturbance format forward back inputs =
    let f = format.frac_bits in
    let e = error_range format.rounding f in
    range
    (least_sum forward inputs +ℤ (roughs f forward *ℤ e.low -ℤ roughs f back *ℤ e.high))
    (greatest_sum forward inputs +ℤ (roughs f forward *ℤ e.high -ℤ roughs f back *ℤ e.low))

abbrev pub disturbance : QuantisedView → Range
disturbance q = line_disturbance q.format q.b (feedback q) (input_interval q)

-- the greatest size of a number in the interval
abbrev pub greatest_size : Range → ℤ
greatest_size r = greater (size r.low) (size r.high)

-- the greatest size of the disturbance
abbrev pub greatest_disturbance : QuantisedView → ℤ
greatest_disturbance q = greatest_size (disturbance q)
