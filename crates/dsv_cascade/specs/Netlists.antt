-- The netlist of a cascade: the netlists of its sections, one after another.
use Rattle.std.specs.Prelude.{ℕ, zero, suc, ◌+◌, List, [], ◌∷◌, ◌++◌, length, map, drop}
use Rattle.dsv_word.specs.declared.format.Format.{Format}
use Rattle.dsv_netlist.specs.declared.node.Node.{Node}
use Rattle.dsv_netlist.specs.declared.node.Node.TheVariants.{Input, Reg, MulConst}
use Rattle.dsv_netlist.specs.declared.node.Node.TheVariants.{Round, Add, Sub, Fit, Scale}
use Rattle.dsv_netlist.specs.Nodes.{Net}
use Rattle.dsv_realise.specs.Netlists.{net_of}
use Rattle.dsv_cascade.specs.Cascades.{CascadeView, sections_of}

-- ---- a netlist after another, whose output is its input
-- the number that a node has after the first netlist's: node 0, its input, is the output of the
-- first
abbrev pub moved_place : Net → ℕ → ℕ
moved_place first zero = first.output
moved_place first (suc k) = length first.nodes + k

-- the node after them; its registers are after the first netlist's too
abbrev pub moved : Net → Node → Node
moved first Input = Input
moved first (Reg register) = Reg (length first.next + register)
moved first (MulConst coeff of) = MulConst coeff (moved_place first of)
moved first (Round of) = Round (moved_place first of)
moved first (Add left right) = Add (moved_place first left) (moved_place first right)
moved first (Sub left right) = Sub (moved_place first left) (moved_place first right)
moved first (Fit of) = Fit (moved_place first of)
moved first (Scale of) = Scale (moved_place first of)

-- both in series; the second has its input as its first node, and nowhere else
abbrev pub joined : Net → Net → Net
joined first second = record {
  nodes = first.nodes ++ map (moved first) (drop 1 second.nodes);
  next = first.next ++ map (moved_place first) second.next;
  output = moved_place first second.output;
  feed_forward = 0;
  format = first.format;
}

abbrev pub joined_all : Net → List Net → Net
joined_all net [] = net
joined_all net (second ∷ others) = joined_all (joined net second) others

-- ---- cascades
-- no register and no operation: the output is the input
abbrev pub wire : Format → Net
wire format = record {
  nodes = Input ∷ [];
  next = [];
  output = 0;
  feed_forward = 0;
  format = format;
}

-- the netlist of a cascade
abbrev pub net_of_cascade : CascadeView → Net
net_of_cascade c = joined_all (wire c.first.format) (map net_of (sections_of c))
