-- What the runs of a network show of its values, whatever their length: a pass of linear forms from
-- registers that are symbols of their own, each in a range. In runs from registers of zeros these
-- symbols, the first ones, are 0.
use Rattle.std.specs.Prelude.{ℕ, zero, suc, ◌*◌, Bool, true, false}
use Rattle.std.specs.Prelude.{if◌then◌else◌, List, [], ◌∷◌, ◌++◌, length, take}
use Rattle.std.specs.Prelude.{Option, Some, None, ℤ, pos, ◌-ℤ◌, int_lt}
use Rattle.std.specs.List.{list_all}
use Rattle.dsv_algebra.specs.Narrow.{narrow_of}
use Rattle.dsv_linear.specs.declared.range.Range.{Range}
use Rattle.dsv_linear.specs.Forms.{◌>>=◌, scale, range_scale, range, unit, least, greatest}
use Rattle.dsv_network.specs.declared.signal.Signal.{Signal}
use Rattle.dsv_network.specs.declared.signal.Signal.TheVariants.{Outer, Register, Product}
use Rattle.dsv_network.specs.declared.signal.Signal.TheVariants.{Sum, Difference}
use Rattle.dsv_network.specs.declared.signal.Signal.TheVariants.{Near, Checked, Shown}
use Rattle.dsv_network.specs.declared.network.Network.{Network}
use Rattle.dsv_network.specs.declared.ends.Ends.{Ends}
use Rattle.dsv_network.specs.declared.ends.Ends.TheVariants as ends
use Rattle.dsv_network.specs.declared.pass.Pass.{Pass}
use Rattle.dsv_network.specs.declared.outlook.Gain.{Gain}
use Rattle.dsv_network.specs.declared.outlook.Outlook.{Outlook}
use Rattle.dsv_network.specs.declared.outlook.Outlook.TheVariants as outlook
use Rattle.dsv_network.specs.declared.search.Search.{Search}
use Rattle.dsv_network.specs.declared.search.Turn.{Turn}
use Rattle.dsv_network.specs.declared.search.Turn.TheVariants as turns
use Rattle.dsv_network.specs.Samples.{form_at, hull, ranges_in, pass_ends, after_pass}

-- ---- ranges
-- range by range, what is made of both
abbrev pub pairwise : (Range → Range → Range) → List Range → List Range → List Range
pairwise both [] others = []
pairwise both (r ∷ ranges) [] = []
pairwise both (r ∷ ranges) (s ∷ others) = both r s ∷ pairwise both ranges others

abbrev pub hulls : List Range → List Range → List Range
hulls = pairwise hull

-- the ranges of samples before, if there were any, and of one more
abbrev pub hulls_after : Option (List Range) → List Range → List Range
hulls_after None ranges = ranges
hulls_after (Some others) ranges = hulls others ranges

-- ---- registers that are symbols
-- so many registers, each a symbol of its own
abbrev pub symbol_registers : ℕ → List (List ℤ)
symbol_registers zero = []
symbol_registers (suc n) = symbol_registers n ++ unit n ∷ []

abbrev pub none_range : Range
none_range = range (pos 0) (pos 0)

-- what the symbol of a node is known to lie in before the first sample: the range of an outer
-- signal's, and 0 of an error, of which the samples tell more
abbrev pub first_ranges : Signal → List Range
first_ranges (Outer range) = range ∷ []
first_ranges (Register register) = []
first_ranges (Product coeff of) = []
first_ranges (Sum left right) = []
first_ranges (Difference left right) = []
first_ranges (Near near) = none_range ∷ []
first_ranges (Checked of) = []
first_ranges (Shown of) = []

abbrev pub sample_symbols : List Signal → List Range
sample_symbols [] = []
sample_symbols (node ∷ nodes) = first_ranges node ++ sample_symbols nodes

-- before the first sample: a symbol for each register, in these ranges
abbrev pub start_pass : Network → List Range → Pass
start_pass net starts = record {
  format = net.format;
  count = length net.next;
  is_first = true;
  registers = symbol_registers (length net.next);
  weights = [];
  ranges = starts ++ sample_symbols net.nodes;
  forms = [];
}

-- ---- how much the start still counts
-- the width of what these symbols, the first ones, make of a form's range, times both scales
abbrev pub start_part : List Range → List ℤ → Option ℤ
start_part starts form = least starts form >>= λ low. greatest starts form >>= λ high.
    narrow_of (high -ℤ low)

abbrev pub value_part : List Range → List (List ℤ) → ℕ → Option ℤ
value_part starts forms of = form_at forms of >>= start_part starts

-- the width is known and less than one word's
abbrev pub is_under_word : Option ℤ → Bool
is_under_word None = false
is_under_word (Some width) = int_lt width (pos (scale * range_scale))

abbrev pub node_has_settled : List Range → List (List ℤ) → Signal → Bool
node_has_settled starts forms (Outer range) = true
node_has_settled starts forms (Register register) = true
node_has_settled starts forms (Product coeff of) = true
node_has_settled starts forms (Sum left right) = true
node_has_settled starts forms (Difference left right) = true
node_has_settled starts forms (Near near) = true
node_has_settled starts forms (Checked of) = is_under_word (value_part starts forms of)
node_has_settled starts forms (Shown of) = is_under_word (value_part starts forms of)

-- after a sample: in each value that is shown the part of the start's symbols is less than one word
abbrev pub has_settled : List Signal → Pass → Bool
has_settled nodes pass =
    list_all (node_has_settled (take pass.count pass.ranges) pass.forms) nodes

-- ---- the search
-- the gain that was found, or else this
abbrev pub best_or : Outlook → Option Gain → Outlook
best_or other None = other
best_or other (Some gain) = outlook.Safe gain

-- the gain of a sample, after that of a sample before, if one had it
abbrev pub gain_at : ℕ → Option Gain → List Range → Gain
gain_at sample None ranges = record { depth = sample; settled = sample; ranges = ranges }
gain_at sample (Some gain) ranges =
    record { depth = gain.depth; settled = sample; ranges = ranges }

-- between two samples
abbrev pub search : Pass → List Range → Option Gain → Search
search pass seen best = record { pass = pass; seen = Some seen; best = best }

-- after a sample that has a gain: it is the last if it has settled
abbrev pub gain_turn : Bool → Pass → List Range → Gain → Turn
gain_turn settled pass seen gain = if settled then turns.Over (outlook.Safe gain)
    else turns.Next (search pass seen (Some gain))

-- by what the sample shows after any registers in their ranges: where a value can leave the words
-- from some of them, the search goes on with what was found; the pass is that after the sample
abbrev pub step_turn : Bool → ℕ → Pass → List Range → Option Gain → Ends → Turn
step_turn settled sample pass seen best (ends.Leaves value) = turns.Next (search pass seen best)
step_turn settled sample pass seen best (ends.Words last) =
    gain_turn settled pass seen (gain_at sample best (hulls seen last))

-- by what it shows of runs from registers of zeros; the other turn follows the ranges seen so far
abbrev pub run_turn : ℕ → Option (List Range) → Option Gain → (List Range → Turn) → Ends → Turn
run_turn sample seen best next (ends.Leaves value) =
    turns.Over (best_or (outlook.Leaves sample value) best)
run_turn sample seen best next (ends.Words now) = next (hulls_after seen now)

-- what one sample comes to: in runs from registers of zeros the start's symbols, one for each
-- register, are 0
abbrev pub sample_turn : List Signal → List ℕ → ℕ → Search → Turn
sample_turn nodes next sample s = let pass = after_pass nodes next s.pass in
    run_turn sample s.seen s.best
    (λ seen. step_turn (has_settled nodes pass) sample pass seen s.best (pass_ends 0 nodes s.pass))
    (pass_ends (length next) nodes s.pass)

abbrev pub turn_outlook : (Search → Outlook) → Turn → Outlook
turn_outlook next (turns.Over found) = found
turn_outlook next (turns.Next later) = next later

-- what so many samples from this one on come to
abbrev pub gain_from : List Signal → List ℕ → ℕ → ℕ → Search → Outlook
gain_from nodes next zero sample s = best_or outlook.Deep s.best
gain_from nodes next (suc left) sample s =
    turn_outlook (gain_from nodes next left (suc sample)) (sample_turn nodes next sample s)

-- ---- runs of any length
-- before the first sample
abbrev pub first_search : Network → List Range → Search
first_search net starts = record { pass = start_pass net starts; seen = None; best = None }

-- What the samples below the limit show of runs of any length, where registers begin in these
-- ranges. A sample has a gain if the ranges of all runs from zeros up to it, and those of the
-- sample itself after any such registers, are ranges of words. The depth is the first sample that
-- has one. The ranges are those of the first sample from there on that has one and has settled, or
-- of the last that has one.
unfoldable pub gain_of : Network → List Range → ℕ → Outlook
gain_of net starts limit = gain_from net.nodes net.next limit 0 (first_search net starts)

-- the ranges of this sample and of so many after it, in runs from zeros, and of the last of them
-- after any registers in their ranges
abbrev pub ranges_from :
    List Signal → List ℕ → ℕ → Pass → Option (List Range) → Option (List Range)
ranges_from nodes next zero pass seen =
    ranges_in (pass_ends (length next) nodes pass) >>= λ now.
    ranges_in (pass_ends 0 nodes pass) >>= λ last. Some (hulls (hulls_after seen now) last)
ranges_from nodes next (suc left) pass seen =
    ranges_in (pass_ends (length next) nodes pass) >>= λ now.
    ranges_from nodes next left (after_pass nodes next pass) (Some (hulls_after seen now))

-- What a depth shows, where registers begin in these ranges.
unfoldable pub ranges_of : Network → List Range → ℕ → Option (List Range)
ranges_of net starts depth = ranges_from net.nodes net.next depth (start_pass net starts) None
