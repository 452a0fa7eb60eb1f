-- One sample of a network in linear forms, and what all samples so far make of its values.
--
-- A network does the same in each sample. So what a symbol counts for in a later value depends on
-- how many samples have passed since it came alone, and the forms of the first sample's symbols,
-- sample after sample, tell those of all others. A form here is over the symbols of the registers
-- that a run begins with, the first ones, and over those of its first sample: one for each outer
-- signal, and an error for each quotient. What the coefficients of a value come to is added up over
-- the samples, and each symbol has one range for all samples.
use Rattle.std.specs.Prelude.{ℕ, zero, suc, ◌+◌, ◌-◌, ◌*◌, ◌/◌, ◌^◌, ◌==◌, Bool, true, false}
use Rattle.std.specs.Prelude.{◌&&◌, nat_lt, nat_le, if◌then◌else◌, List, [], ◌∷◌, ◌++◌}
use Rattle.std.specs.Prelude.{length, drop, map}
use Rattle.std.specs.Prelude.{slice_index_or, Option, Some, None, ℤ, pos, ◌+ℤ◌, int_lt}
use Rattle.std.specs.Int.{int_rem_euclid}
use Rattle.dsv_algebra.specs.Floor.{floor_of}
use Rattle.dsv_algebra.specs.Narrow.{narrow_of}
use Rattle.dsv_word.specs.declared.format.Format.{Format}
use Rattle.dsv_word.specs.Width.{widest_word}
use Rattle.dsv_netlist.specs.Nodes.{at}
use Rattle.dsv_linear.specs.declared.range.Range.{Range}
use Rattle.dsv_linear.specs.declared.range.Factor.TheVariants.{Low, High}
use Rattle.dsv_linear.specs.Forms.{◌>>=◌, scale, range_scale, range, both, lower, upper}
use Rattle.dsv_linear.specs.Forms.{scaled_range, sums_range}
use Rattle.dsv_linear.specs.Forms.{entries, factor_sum, sum_of, difference_of, product_of, unit}
use Rattle.dsv_linear.specs.Known.{are_words}
use Rattle.dsv_network.specs.declared.signal.NearQuotient.{NearQuotient}
use Rattle.dsv_network.specs.declared.signal.Signal.{Signal}
use Rattle.dsv_network.specs.declared.signal.Signal.TheVariants.{Outer, Register, Product}
use Rattle.dsv_network.specs.declared.signal.Signal.TheVariants.{Sum, Difference}
use Rattle.dsv_network.specs.declared.signal.Signal.TheVariants.{Near, Checked, Shown}
use Rattle.dsv_network.specs.declared.ends.Ends.{Ends}
use Rattle.dsv_network.specs.declared.ends.Ends.TheVariants as ends
use Rattle.dsv_network.specs.declared.weights.Part.{Part}
use Rattle.dsv_network.specs.declared.weights.Part.TheVariants.{Positive, Negative, Rest}
use Rattle.dsv_network.specs.declared.weights.Weights.{Weights}
use Rattle.dsv_network.specs.declared.pass.Pass.{Pass}
use Rattle.dsv_network.specs.declared.walk.Walk.{Walk}

-- ---- forms
abbrev pub form_at : List (List ℤ) → ℕ → Option (List ℤ)
form_at forms i = if nat_lt i (length forms) then Some (slice_index_or forms i []) else None

-- a symbol's own coefficient in the value that brings it, in the first sample
abbrev pub owned : Bool → ℕ → ℕ → ℤ → ℤ → ℤ
owned first own j coefficient other = if first && (j == own) then coefficient else other

-- the symbol of an outer signal came in the first sample alone
abbrev pub outer_form : Bool → ℕ → List ℤ
outer_form first own = if first then unit own else []

-- a quotient's divisor is positive, and its error has no more bits after the point than a word
abbrev pub is_lawful : NearQuotient → Bool
is_lawful near = nat_lt 0 near.divisor && nat_le near.bits widest_word

-- the coefficient of an error in the quotient that brings it
abbrev pub step_of : NearQuotient → ℕ
step_of near = scale / 2 ^ near.bits

-- a quotient, over n symbols
abbrev pub quotient_form : Bool → ℕ → ℕ → NearQuotient → List ℤ → Option (List ℤ)
quotient_form first n own near form = if is_lawful near
    then entries n (λ j. owned first own j (pos (step_of near)) (floor_of (at form j) near.divisor))
    else None

abbrev pub near_at : Pass → Walk → NearQuotient → Option (List ℤ)
near_at pass walk near = form_at walk.forms near.of
    >>= quotient_form pass.is_first (length pass.ranges) walk.own near

abbrev pub node_form : Pass → Walk → Signal → Option (List ℤ)
node_form pass walk (Outer range) = Some (outer_form pass.is_first walk.own)
node_form pass walk (Register register) = form_at pass.registers register
node_form pass walk (Product coeff of) = product_of coeff (form_at walk.forms of)
node_form pass walk (Sum left right) =
    sum_of (form_at walk.forms left) (form_at walk.forms right)
node_form pass walk (Difference left right) =
    difference_of (form_at walk.forms left) (form_at walk.forms right)
node_form pass walk (Near near) = near_at pass walk near
-- up to the first that is no word nothing changes
node_form pass walk (Checked of) = form_at walk.forms of
node_form pass walk (Shown of) = form_at walk.forms of

-- ---- what coefficients come to over all samples so far
-- the part of a coefficient that is added up, where a quotient's divisor is d
abbrev pub part_of : Part → ℕ → ℤ → ℤ
part_of Positive d v = if int_lt v (pos 0) then pos 0 else v
part_of Negative d v = if int_lt v (pos 0) then v else pos 0
part_of Rest d v = int_rem_euclid v (pos d)

-- what stays of the samples before: the start's symbols are 0 in all samples but the first, so they
-- count in the newest forms alone
abbrev pub kept : ℕ → List ℤ → ℕ → ℤ
kept count old j = if nat_lt j count then pos 0 else at old j

abbrev pub added : Pass → Part → ℕ → List ℤ → List ℤ → Option (List ℤ)
added pass part d old form =
    entries (length pass.ranges) (λ j. kept pass.count old j +ℤ part_of part d (at form j))

abbrev pub no_weights : Weights
no_weights = record { positive = []; negative = [] }

abbrev pub weights_at : List Weights → ℕ → Weights
weights_at list i = slice_index_or list i no_weights

-- with those of a value that is shown
abbrev pub shown_weights : Pass → Weights → List ℤ → Option Weights
shown_weights pass old form = added pass Positive 1 old.positive form >>= λ positive.
    added pass Negative 1 old.negative form >>= λ negative.
    Some (record { positive = positive; negative = negative })

-- what is left of the coefficients of a value that is divided
abbrev pub left_over : Pass → ℕ → Weights → List ℤ → Option Weights
left_over pass d old form = added pass Rest d old.positive form >>= λ positive.
    Some (record { positive = positive; negative = [] })

-- the weights of the next value in the samples before
abbrev pub old_weights : Pass → Walk → Weights
old_weights pass walk = weights_at pass.weights (length walk.forms)

abbrev pub shown_at : Pass → Walk → ℕ → Option Weights
shown_at pass walk of = form_at walk.forms of >>= shown_weights pass (old_weights pass walk)

abbrev pub left_over_at : Pass → Walk → NearQuotient → Option Weights
left_over_at pass walk near = if is_lawful near
    then (form_at walk.forms near.of >>= left_over pass near.divisor (old_weights pass walk))
    else None

abbrev pub node_weights : Pass → Walk → Signal → Option Weights
node_weights pass walk (Outer range) = Some no_weights
node_weights pass walk (Register register) = Some no_weights
node_weights pass walk (Product coeff of) = Some no_weights
node_weights pass walk (Sum left right) = Some no_weights
node_weights pass walk (Difference left right) = Some no_weights
node_weights pass walk (Near near) = left_over_at pass walk near
node_weights pass walk (Checked of) = shown_at pass walk of
node_weights pass walk (Shown of) = shown_at pass walk of

-- the least and the greatest sum of weights, each times a number in its symbol's range
abbrev pub least_sum : List Range → Weights → Option ℤ
least_sum ranges w = factor_sum Low ranges w.positive >>= λ a.
    factor_sum High ranges w.negative >>= λ b. narrow_of (a +ℤ b)

abbrev pub greatest_sum : List Range → Weights → Option ℤ
greatest_sum ranges w = factor_sum High ranges w.positive >>= λ a.
    factor_sum Low ranges w.negative >>= λ b. narrow_of (a +ℤ b)

abbrev pub weight_sums : List Range → Weights → Option Range
weight_sums ranges w = both (least_sum ranges w) (greatest_sum ranges w)

-- the weights of the symbols after the first so many
abbrev pub after_first : ℕ → Weights → Weights
after_first count w = record { positive = drop count w.positive; negative = drop count w.negative }

-- the range of a value, which is whole, by its extreme sums
abbrev pub whole_range : Range → Option Range
whole_range sums =
    both (upper sums.low (scale * range_scale)) (lower sums.high (scale * range_scale))

-- the range of any number
abbrev pub outer_range : Range → Option Range
outer_range sums =
    both (lower sums.low (scale * range_scale)) (upper sums.high (scale * range_scale))

-- the range of a number by its extreme sums: of a whole one it is rounded inward
abbrev pub rounded_range : Bool → Range → Option Range
rounded_range true sums = whole_range sums
rounded_range false sums = outer_range sums

-- where the first so many symbols are 0
abbrev pub value_range : Bool → ℕ → List Range → Weights → Option Range
value_range whole count ranges w = weight_sums (drop count ranges) (after_first count w)
    >>= rounded_range whole

-- ---- the ranges of symbols
-- the least range that holds both
abbrev pub hull : Range → Range → Range
hull r s = range (if int_lt s.low r.low then s.low else r.low)
    (if int_lt r.high s.high then s.high else r.high)

-- the symbol of this number has this range too
abbrev pub widened : List Range → ℕ → Range → List Range
widened [] j r = []
widened (s ∷ ranges) zero r = hull s r ∷ ranges
widened (s ∷ ranges) (suc j) r = s ∷ widened ranges j r

-- what the range of a symbol is lost by, for each unit of what is left of the coefficients
abbrev pub loss_divisor : NearQuotient → ℕ
loss_divisor near = near.divisor * step_of near

-- the symbol of a quotient is its error, and what the coefficients lose
abbrev pub symbol_range : NearQuotient → Range → Option Range
symbol_range near sums =
    both (lower sums.low (loss_divisor near)) (upper sums.high (loss_divisor near)) >>= λ loss.
    scaled_range near.errors >>= λ error. sums_range error loss

abbrev pub error_symbol : NearQuotient → List Range → Weights → Option Range
error_symbol near ranges w = weight_sums ranges w >>= symbol_range near

abbrev pub node_ranges : List Range → ℕ → Weights → Signal → Option (List Range)
node_ranges ranges own w (Outer range) = Some ranges
node_ranges ranges own w (Register register) = Some ranges
node_ranges ranges own w (Product coeff of) = Some ranges
node_ranges ranges own w (Sum left right) = Some ranges
node_ranges ranges own w (Difference left right) = Some ranges
node_ranges ranges own w (Near near) = if is_lawful near
    then (error_symbol near ranges w >>= λ symbol. Some (widened ranges own symbol)) else None
node_ranges ranges own w (Checked of) = Some ranges
node_ranges ranges own w (Shown of) = Some ranges

-- ---- node by node
-- the number of the next symbol, after those before
abbrev pub own_after : ℕ → Signal → ℕ
own_after own (Outer range) = suc own
own_after own (Register register) = own
own_after own (Product coeff of) = own
own_after own (Sum left right) = own
own_after own (Difference left right) = own
own_after own (Near near) = suc own
own_after own (Checked of) = own
own_after own (Shown of) = own

-- no symbol has a number from there on
abbrev pub own_limit : ℕ
own_limit = 2 ^ 32

-- a walk over the nodes with one node more
abbrev pub walk_with : Walk → List ℤ → Weights → List Range → ℕ → Walk
walk_with walk form w ranges own = record {
  forms = walk.forms ++ form ∷ [];
  weights = walk.weights ++ w ∷ [];
  ranges = ranges;
  own = own;
}

-- it is given up where a number isn't narrow
abbrev pub with_node : Pass → Walk → Signal → Option Walk
with_node pass walk node = node_form pass walk node >>= λ form.
    node_weights pass walk node >>= λ w.
    node_ranges walk.ranges walk.own w node >>= λ ranges.
    Some (walk_with walk form w ranges (own_after walk.own node))

-- and where there are so many symbols that the next one has no number
abbrev pub after_node : Pass → Walk → Signal → Option Walk
after_node pass walk node = if nat_lt walk.own own_limit then with_node pass walk node else None

abbrev pub walk_from : Pass → List Signal → Walk → Option Walk
walk_from pass [] walk = Some walk
walk_from pass (node ∷ nodes) walk = after_node pass walk node >>= walk_from pass nodes

-- before a sample's first node
abbrev pub begun : Pass → Walk
begun pass = record { forms = []; weights = []; ranges = pass.ranges; own = pass.count }

-- ---- what is shown of values
-- the range of a value, where it is known and its ends are words
abbrev pub value_ends : Format → Option Range → Ends
value_ends format None = ends.Leaves 0
value_ends format (Some r) = if are_words format r then ends.Words (r ∷ []) else ends.Leaves 0

-- what a node shows, if it shows anything, where the first so many symbols are 0
abbrev pub node_ends : ℕ → Pass → List Range → Weights → Signal → Ends
node_ends count pass ranges w (Outer range) = ends.Words []
node_ends count pass ranges w (Register register) = ends.Words []
node_ends count pass ranges w (Product coeff of) = ends.Words []
node_ends count pass ranges w (Sum left right) = ends.Words []
node_ends count pass ranges w (Difference left right) = ends.Words []
node_ends count pass ranges w (Near near) = ends.Words []
node_ends count pass ranges w (Checked of) =
    value_ends pass.format (value_range true count ranges w)
node_ends count pass ranges w (Shown of) =
    value_ends pass.format (value_range false count ranges w)

-- what is shown after so many values whose ends are words
abbrev pub later_ends : List Range → Ends → Ends
later_ends ranges (ends.Words more) = ends.Words (ranges ++ more)
later_ends ranges (ends.Leaves value) = ends.Leaves (length ranges + value)

-- what is shown of some values and of those after them
abbrev pub with_ends : Ends → Ends → Ends
with_ends (ends.Words ranges) rest = later_ends ranges rest
with_ends (ends.Leaves value) rest = ends.Leaves value

-- the ranges of a sample's values, where all of them are ranges of words
abbrev pub ranges_in : Ends → Option (List Range)
ranges_in (ends.Words ranges) = Some ranges
ranges_in (ends.Leaves value) = None

-- what a node of this number shows, after which the walk has come so far
abbrev pub shown_by : ℕ → Pass → ℕ → Signal → Walk → Ends
shown_by count pass i node walk =
    node_ends count pass walk.ranges (weights_at walk.weights i) node

-- where the walk is given up, the next value isn't known
abbrev pub then_ends : Ends → (Walk → Ends) → (Walk → Ends) → Option Walk → Ends
then_ends other here rest None = other
then_ends other here rest (Some walk) = with_ends (here walk) (rest walk)

abbrev pub ends_from : ℕ → Pass → List Signal → Walk → Ends
ends_from count pass [] walk = ends.Words []
ends_from count pass (node ∷ nodes) walk =
    then_ends (ends.Leaves 0) (shown_by count pass (length walk.weights) node)
    (ends_from count pass nodes) (after_node pass walk node)

-- ---- samples one after another
-- what the next sample shows of its values, where the first so many symbols are 0
abbrev pub pass_ends : ℕ → List Signal → Pass → Ends
pass_ends count nodes pass = ends_from count pass nodes (begun pass)

-- the forms of registers that are loaded from these nodes
abbrev pub loaded : List ℕ → List (List ℤ) → List (List ℤ)
loaded next forms = map (λ i. slice_index_or forms i []) next

-- the pass after a sample whose walk has ended, which has stood still where that was given up
abbrev pub pass_with : List ℕ → Pass → Option Walk → Pass
pass_with next pass None = pass
pass_with next pass (Some walk) = record {
  format = pass.format;
  count = pass.count;
  is_first = false;
  registers = loaded next walk.forms;
  weights = walk.weights;
  ranges = walk.ranges;
  forms = walk.forms;
}

-- the pass after one sample more
abbrev pub after_pass : List Signal → List ℕ → Pass → Pass
after_pass nodes next pass = pass_with next pass (walk_from pass nodes (begun pass))
