-- What is known of each exact value of a run: forms and plain intervals, node by node and sample by
-- sample.
use Rattle.std.specs.Prelude.{ℕ, zero, suc, ◌-◌, ◌^◌, ◌==◌, Bool, ◌&&◌, not}
use Rattle.std.specs.Prelude.{if◌then◌else◌, List, [], ◌∷◌, ◌++◌, length, map, replicate}
use Rattle.std.specs.Prelude.{slice_index_or, Option, Some, None, option_map, option_to_list}
use Rattle.std.specs.Prelude.{ℤ, pos, ◌-ℤ◌, int_lt}
use Rattle.dsv_algebra.specs.Narrow.{narrow_of}
use Rattle.dsv_names.specs.declared.rounding.Rounding.{Rounding}
use Rattle.dsv_names.specs.declared.rounding.Rounding.TheVariants as rounding
use Rattle.dsv_word.specs.declared.format.Format.{Format}
use Rattle.dsv_word.specs.Words.{width, lo, hi}
use Rattle.dsv_word.specs.Quotients.{whole_shift}
use Rattle.dsv_netlist.specs.declared.node.Node.{Node}
use Rattle.dsv_netlist.specs.declared.node.Node.TheVariants.{Input, Reg, MulConst}
use Rattle.dsv_netlist.specs.declared.node.Node.TheVariants.{Round, Add, Sub, Fit, Scale}
use Rattle.dsv_netlist.specs.Nodes.{Net}
use Rattle.dsv_linear.specs.declared.fact.Fact.{Fact}
use Rattle.dsv_linear.specs.declared.fact.Fact.TheVariants as fact
use Rattle.dsv_linear.specs.declared.range.Range.{Range}
use Rattle.dsv_linear.specs.declared.point.Entry.{Entry}
use Rattle.dsv_linear.specs.declared.point.Estimate.{Estimate}
use Rattle.dsv_linear.specs.declared.point.Start.{Start}
use Rattle.dsv_linear.specs.declared.point.Point.{Point}
use Rattle.dsv_linear.specs.Forms.{◌>>=◌, range, both, products_range, sums_range}
use Rattle.dsv_linear.specs.Forms.{differences_range, scaled_range}
use Rattle.dsv_linear.specs.Forms.{sum_of, difference_of, product_of, unit, form_range}
use Rattle.dsv_linear.specs.Forms.{with_symbol, without_symbol, rounded}

-- of a value nothing is known
abbrev pub unknown : Estimate
unknown = record { form = None; interval = None }

abbrev pub estimate_at : List Estimate → ℕ → Estimate
estimate_at estimates i = slice_index_or estimates i unknown

abbrev pub form_at : List Estimate → ℕ → Option (List ℤ)
form_at estimates i = (estimate_at estimates i).form

abbrev pub interval_at : List Estimate → ℕ → Option Range
interval_at estimates i = (estimate_at estimates i).interval

-- ---- the form of a node's value
-- the range of the errors 2^f w - v, where w is v / 2^f made whole
abbrev pub error_range : Rounding → ℕ → Range
error_range rounding.Floor f = range (pos 1 -ℤ pos (2 ^ f)) (pos 0)
error_range rounding.Ceil f = range (pos 0) (pos (2 ^ f) -ℤ pos 1)
error_range rounding.Nearest f = if f == 0 then range (pos 0) (pos 0)
    else range (pos 1 -ℤ pos (2 ^ (f - 1))) (pos (2 ^ (f - 1)))

-- the form of a value as the format rounds it
abbrev pub rounded_in : Format → List Range → List ℤ → Option Entry
rounded_in format ranges form = rounded (2 ^ format.frac_bits)
    (error_range format.rounding format.frac_bits) ranges form

-- an input from this range, after `count` symbols
abbrev pub input_entry : Range → ℕ → Option Entry
input_entry input count = scaled_range input >>= λ symbol. with_symbol (unit count) symbol

abbrev pub rounded_at : Format → Point → ℕ → Option Entry
rounded_at format point of = form_at point.estimates of >>= λ form.
    rounded_in format point.ranges form

abbrev pub node_entry : Start → Point → Node → Option Entry
node_entry start point Input = input_entry start.input (length point.ranges)
node_entry start point (Reg register) = without_symbol (form_at start.registers register)
node_entry start point (MulConst coeff of) =
    without_symbol (product_of coeff (form_at point.estimates of))
node_entry start point (Round of) = rounded_at start.format point of
node_entry start point (Add left right) = without_symbol
    (sum_of (form_at point.estimates left) (form_at point.estimates right))
node_entry start point (Sub left right) = without_symbol
    (difference_of (form_at point.estimates left) (form_at point.estimates right))
-- up to the first break nothing wraps
node_entry start point (Fit of) = without_symbol (form_at point.estimates of)
node_entry start point (Scale of) =
    without_symbol (product_of (pos (2 ^ start.format.frac_bits)) (form_at point.estimates of))

-- ---- the plain interval of a node's value
-- a number as the format rounds it
abbrev pub rounded_end : Format → ℤ → Option ℤ
rounded_end format v =
    narrow_of v >>= λ u. narrow_of (whole_shift format.rounding format.frac_bits u)

abbrev pub rounded_range : Format → Range → Option Range
rounded_range format r = both (rounded_end format r.low) (rounded_end format r.high)

-- the range cut to the words
abbrev pub cut_range : Format → Range → Range
cut_range format r = range
    (if int_lt r.low (lo (width format)) then lo (width format) else r.low)
    (if int_lt (hi (width format)) r.high then hi (width format) else r.high)

abbrev pub node_interval : Start → Point → Node → Option Range
node_interval start point Input = Some start.input
node_interval start point (Reg register) = interval_at start.registers register
node_interval start point (MulConst coeff of) =
    interval_at point.estimates of >>= λ r. products_range coeff r
node_interval start point (Round of) =
    interval_at point.estimates of >>= λ r. rounded_range start.format r
node_interval start point (Add left right) = interval_at point.estimates left >>= λ r.
    interval_at point.estimates right >>= λ s. sums_range r s
node_interval start point (Sub left right) = interval_at point.estimates left >>= λ r.
    interval_at point.estimates right >>= λ s. differences_range r s
node_interval start point (Fit of) =
    interval_at point.estimates of >>= λ r. Some (cut_range start.format r)
node_interval start point (Scale of) =
    interval_at point.estimates of >>= λ r. products_range (pos (2 ^ start.format.frac_bits)) r

-- ---- the fact of a value that is fitted
abbrev pub is_word : Format → ℤ → Bool
is_word format v = not (int_lt v (lo (width format))) && not (int_lt (hi (width format)) v)

-- both ends are words
abbrev pub are_words : Format → Range → Bool
are_words format r = is_word format r.low && is_word format r.high

-- the fact, where these are the ends of a form's range, and this is the plain interval
abbrev pub inside_fact : Format → Range → Option Range → Fact
inside_fact format ends None = fact.Inside
inside_fact format ends (Some interval) =
    if are_words format interval then fact.Within ends.low ends.high else fact.Inside

-- the fact, where this is the form's range
abbrev pub fact_of : Format → Option Range → Option Range → Fact
fact_of format None interval = fact.Open
fact_of format (Some ends) interval =
    if are_words format ends then inside_fact format ends interval else fact.Open

-- the range of the form of the value of this number
abbrev pub ends_at : Point → ℕ → Option Range
ends_at point of = form_at point.estimates of >>= λ form. form_range point.ranges form

abbrev pub node_fact : Format → Point → Node → Option Fact
node_fact format point Input = None
node_fact format point (Reg register) = None
node_fact format point (MulConst coeff of) = None
node_fact format point (Round of) = None
node_fact format point (Add left right) = None
node_fact format point (Sub left right) = None
node_fact format point (Fit of) =
    Some (fact_of format (ends_at point of) (interval_at point.estimates of))
node_fact format point (Scale of) = None

-- ---- samples
abbrev pub form_of : Option Entry → Option (List ℤ)
form_of entry = option_map (λ e. e.form) entry

abbrev pub symbol_of : Option Entry → Option Range
symbol_of entry = entry >>= λ e. e.symbol

-- a point with what a node adds
abbrev pub advanced : Point → Option Entry → Option Range → Option Fact → Point
advanced point entry interval fact = record {
  estimates = point.estimates ++ (record { form = form_of entry; interval = interval }) ∷ [];
  ranges = point.ranges ++ option_to_list (symbol_of entry);
  facts = point.facts ++ option_to_list fact;
}

abbrev pub after_node : Start → Point → Node → Point
after_node start point node = advanced point (node_entry start point node)
    (node_interval start point node) (node_fact start.format point node)

abbrev pub point_from : Start → List Node → Point → Point
point_from start [] point = point
point_from start (node ∷ nodes) point = point_from start nodes (after_node start point node)

-- no node yet, after these symbols and facts
abbrev pub fresh : Point → Point
fresh point = record { estimates = []; ranges = point.ranges; facts = point.facts }

-- what is known after one sample
abbrev pub after_sample : Net → Start → Point → Point
after_sample net start point = point_from start net.nodes (fresh point)

-- what the next sample starts with, where the registers are loaded from these nodes
abbrev pub loaded : List ℕ → Start → Point → Start
loaded next start point = record {
  format = start.format;
  input = start.input;
  registers = map (estimate_at point.estimates) next;
}

-- the facts after further samples
abbrev pub facts_from : Net → ℕ → Start → Point → List Fact
facts_from net zero start point = point.facts
facts_from net (suc samples) start point = let now = after_sample net start point in
    facts_from net samples (loaded net.next start now) now

-- a register that starts with 0
abbrev pub zero_estimate : Estimate
zero_estimate = record { form = Some []; interval = Some (range (pos 0) (pos 0)) }

abbrev pub zero_start : Net → ℤ → ℤ → Start
zero_start net low high = record {
  format = net.format;
  input = range low high;
  registers = replicate (length net.next) zero_estimate;
}

-- no symbol and no fact yet
abbrev pub no_point : Point
no_point = record { estimates = []; ranges = []; facts = [] }

-- the facts of a run of `samples` samples from registers of zeros, over inputs from one to another
unfoldable pub facts_of : Net → ℤ → ℤ → ℕ → List Fact
facts_of net low high samples = facts_from net samples (zero_start net low high) no_point
