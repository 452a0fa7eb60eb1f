-- Serves private contracts: what is wanted of each node before it is computed.
use Rattle.std.specs.Prelude.{◌+◌, ◌<◌, ◌≤◌, List, [], ◌∷◌, length, ℤ}
use Rattle.std.specs.Int.RustNames.{unsigned_abs}
use Rattle.dsv_word.specs.declared.format.Format.{Format}
use Rattle.dsv_netlist.specs.declared.node.Node.{Node}
use Rattle.dsv_netlist.specs.Limits.{most_exact, bound_limit}
use Rattle.dsv_netlist.specs.Nodes.{Sample, node_value, node_exact, after_node}
use Rattle.dsv_netlist.specs.Conditions.{NamesBelow, ReadsBelow}

-- the node can be computed from a sample that has come so far
pub record IsSafe (format : Format) (registers : List ℤ) (x : ℤ) (sample : Sample) (node : Node) :
    Type 0 where
  pub backwards : NamesBelow (length sample.values) node
  pub reads : ReadsBelow (length registers) node
  pub small : unsigned_abs (node_value format registers x sample.values node) < bound_limit
  pub room : length sample.exact + length (node_exact sample.values node) ≤ most_exact

-- these nodes can be computed one after another
abbrev pub AreSafe : Format → List ℤ → ℤ → List Node → Sample → Type 0
AreSafe format registers x [] sample = Unit {0}
AreSafe format registers x (node ∷ nodes) sample = IsSafe format registers x sample node
    × AreSafe format registers x nodes (after_node format registers x sample node)
