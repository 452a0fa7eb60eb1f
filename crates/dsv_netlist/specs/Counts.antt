-- How many operations a sample takes.
use Rattle.std.specs.Prelude.{Bool, true, false, length, count_by}
use Rattle.dsv_netlist.specs.declared.node.Node.{Node}
use Rattle.dsv_netlist.specs.declared.node.Node.TheVariants.{Input, Reg, MulConst}
use Rattle.dsv_netlist.specs.declared.node.Node.TheVariants.{Round, Add, Sub, Fit, Scale}
use Rattle.dsv_netlist.specs.declared.netlist.OpCounts.{OpCounts}
use Rattle.dsv_netlist.specs.Nodes.{Net}

abbrev pub is_product : Node → Bool
is_product Input = false
is_product (Reg register) = false
is_product (MulConst coeff of) = true
is_product (Round of) = false
is_product (Add left right) = false
is_product (Sub left right) = false
is_product (Fit of) = false
is_product (Scale of) = false

-- a sum or a difference
abbrev pub is_sum : Node → Bool
is_sum Input = false
is_sum (Reg register) = false
is_sum (MulConst coeff of) = false
is_sum (Round of) = false
is_sum (Add left right) = true
is_sum (Sub left right) = true
is_sum (Fit of) = false
is_sum (Scale of) = false

abbrev pub counts_of : Net → OpCounts
counts_of net = record {
  products = count_by is_product net.nodes;
  sums = count_by is_sum net.nodes;
  moves = length net.next;
}
