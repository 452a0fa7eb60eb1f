-- The networks of netlists: of their runs in words, and of how these differ from exact runs.
use Rattle.std.specs.Prelude.{ℕ, ◌^◌, Bool, List, map, pos}
use Rattle.dsv_word.specs.declared.format.Format.{Format}
use Rattle.dsv_netlist.specs.declared.node.Node.{Node}
use Rattle.dsv_netlist.specs.declared.node.Node.TheVariants.{Input, Reg, MulConst}
use Rattle.dsv_netlist.specs.declared.node.Node.TheVariants.{Round, Add, Sub, Fit, Scale}
use Rattle.dsv_netlist.specs.Nodes.{Net}
use Rattle.dsv_linear.specs.declared.range.Range.{Range}
use Rattle.dsv_roundoff.specs.Differences.{errors_at, multiples_of}
use Rattle.dsv_network.specs.declared.signal.NearQuotient.{NearQuotient}
use Rattle.dsv_network.specs.declared.signal.Signal.{Signal}
use Rattle.dsv_network.specs.declared.signal.Signal.TheVariants.{Outer, Register, Product}
use Rattle.dsv_network.specs.declared.signal.Signal.TheVariants.{Sum, Difference}
use Rattle.dsv_network.specs.declared.signal.Signal.TheVariants.{Near, Checked, Shown}
use Rattle.dsv_network.specs.declared.network.Network.{Network}
use Rattle.dsv_gain.specs.declared.networks.Quantity.{Quantity}
use Rattle.dsv_gain.specs.declared.networks.Quantity.TheVariants as quantity

-- a product rounded to a word: it has an error unless these say that it needs no rounding
abbrev pub near_of : Format → List Bool → ℕ → NearQuotient
near_of format multiples of = record {
  of = of;
  divisor = 2 ^ format.frac_bits;
  bits = format.frac_bits;
  errors = errors_at format multiples of;
}

-- what is fitted: words are checked, and differences aren't whole
abbrev pub shown_as : Quantity → ℕ → Signal
shown_as quantity.Words of = Checked of
shown_as quantity.Differences of = Shown of

-- what a node gives, where an input's symbol has this range
abbrev pub signal_of : Format → Quantity → List Bool → Range → Node → Signal
signal_of format quantity multiples input Input = Outer input
signal_of format quantity multiples input (Reg register) = Register register
signal_of format quantity multiples input (MulConst coeff of) = Product coeff of
signal_of format quantity multiples input (Round of) = Near (near_of format multiples of)
signal_of format quantity multiples input (Add left right) = Sum left right
signal_of format quantity multiples input (Sub left right) = Difference left right
signal_of format quantity multiples input (Fit of) = shown_as quantity of
signal_of format quantity multiples input (Scale of) = Product (pos (2 ^ format.frac_bits)) of

abbrev pub network_of : Net → Quantity → Range → Network
network_of net quantity input = record {
  format = net.format;
  nodes = map (signal_of net.format quantity (multiples_of net.format net.nodes) input) net.nodes;
  next = net.next;
}
