-- What the runs of a netlist show of its exact values, whatever their length: the gain of its
-- network from registers that are any words, or past inputs.
use Rattle.std.specs.Prelude.{ℕ, zero, suc, ◌-◌, Bool, true, false, nat_lt, if◌then◌else◌}
use Rattle.std.specs.Prelude.{List, [], ◌∷◌, ◌++◌, length, take, replicate, ℤ, pos, ◌*ℤ◌, int_lt}
use Rattle.std.specs.List.{list_all}
use Rattle.dsv_word.specs.declared.format.Format.{Format}
use Rattle.dsv_word.specs.Words.{width, lo, hi}
use Rattle.dsv_netlist.specs.declared.node.Node.{Node}
use Rattle.dsv_netlist.specs.declared.node.Node.TheVariants.{Input, Reg, MulConst}
use Rattle.dsv_netlist.specs.declared.node.Node.TheVariants.{Round, Add, Sub, Fit, Scale}
use Rattle.dsv_netlist.specs.Nodes.{Net}
use Rattle.dsv_linear.specs.declared.range.Range.{Range}
use Rattle.dsv_linear.specs.Forms.{range_scale, range}
use Rattle.dsv_network.specs.declared.network.Network.{Network}
use Rattle.dsv_network.specs.declared.outlook.Outlook.{Outlook}
use Rattle.dsv_network.specs.Gains as network
use Rattle.dsv_gain.specs.Networks.{network_of}
use Rattle.dsv_gain.specs.declared.networks.Quantity.TheVariants as quantity

-- ---- ranges of symbols
-- the range of a symbol whose values are these
abbrev pub symbol_of_range : Range → Range
symbol_of_range r = range (pos range_scale *ℤ r.low) (pos range_scale *ℤ r.high)

abbrev pub words_range : Format → Range
words_range format = range (lo (width format)) (hi (width format))

-- the inputs and 0
abbrev pub past_range : ℤ → ℤ → Range
past_range low high = range (if int_lt (pos 0) low then pos 0 else low)
    (if int_lt high (pos 0) then pos 0 else high)

-- a node that gives the input, or one of the first so many registers
abbrev pub is_past : ℕ → Node → Bool
is_past forward Input = true
is_past forward (Reg register) = nat_lt register forward
is_past forward (MulConst coeff of) = false
is_past forward (Round of) = false
is_past forward (Add left right) = false
is_past forward (Sub left right) = false
is_past forward (Fit of) = false
is_past forward (Scale of) = false

-- the node of this number is such a one
abbrev pub gives_past : ℕ → List Node → ℕ → Bool
gives_past forward [] k = false
gives_past forward (node ∷ nodes) zero = is_past forward node
gives_past forward (node ∷ nodes) (suc k) = gives_past forward nodes k

-- the first so many registers are loaded with inputs and from one another
abbrev pub hold_inputs : ℕ → List Node → List ℕ → Bool
hold_inputs forward nodes next = list_all (gives_past forward nodes) (take forward next)

-- how many of the first registers hold inputs of samples before, or 0
abbrev pub pasts : Net → ℕ
pasts net = if hold_inputs net.feed_forward net.nodes net.next then net.feed_forward else 0

abbrev pub register_symbols : Net → ℤ → ℤ → List Range
register_symbols net low high = replicate (pasts net) (symbol_of_range (past_range low high))
    ++ replicate (length net.next - pasts net) (symbol_of_range (words_range net.format))

-- ---- runs of any length
-- the network of runs in words, over these inputs
abbrev pub words_network : Net → ℤ → ℤ → Network
words_network net low high = network_of net quantity.Words (symbol_of_range (range low high))

-- What the samples below the limit show of runs of any length, from registers that are words, of
-- which those that hold past inputs hold such. A sample has a gain if the ranges of all runs up to
-- it, and those of the sample itself after any such registers, are ranges of words.
unfoldable pub first_gain : Net → ℤ → ℤ → ℕ → Outlook
first_gain net low high limit =
    network.gain_of (words_network net low high) (register_symbols net low high) limit
