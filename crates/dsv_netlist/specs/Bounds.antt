-- Bounds on the sizes of the nodes' values, for registers and an input that are words.
use Rattle.std.specs.Prelude.{ℕ, ◌+◌, ◌-◌, ◌*◌, ◌^◌, List}
use Rattle.std.specs.Prelude.{[], ◌∷◌, ◌++◌, slice_index}
use Rattle.std.specs.Int.RustNames.{unsigned_abs}
use Rattle.dsv_word.specs.declared.format.Format.{Format}
use Rattle.dsv_word.specs.Words.{width}
use Rattle.dsv_netlist.specs.declared.node.Node.{Node}
use Rattle.dsv_netlist.specs.declared.node.Node.TheVariants.{Input, Reg, MulConst}
use Rattle.dsv_netlist.specs.declared.node.Node.TheVariants.{Round, Add, Sub, Fit, Scale}

-- the greatest size of a word
abbrev pub word_bound : Format → ℕ
word_bound format = 2 ^ (width format - 1)

-- the bound of a node, where those of the nodes before it are these
abbrev pub node_bound : Format → List ℕ → Node → ℕ
node_bound format bounds Input = word_bound format
node_bound format bounds (Reg register) = word_bound format
node_bound format bounds (MulConst coeff of) = unsigned_abs coeff * slice_index bounds of
node_bound format bounds (Round of) = slice_index bounds of
node_bound format bounds (Add left right) = slice_index bounds left + slice_index bounds right
node_bound format bounds (Sub left right) = slice_index bounds left + slice_index bounds right
node_bound format bounds (Fit of) = word_bound format
node_bound format bounds (Scale of) = 2 ^ format.frac_bits * slice_index bounds of

abbrev pub bounds_from : Format → List Node → List ℕ → List ℕ
bounds_from format [] bounds = bounds
bounds_from format (node ∷ nodes) bounds =
    bounds_from format nodes (bounds ++ node_bound format bounds node ∷ [])

-- the bounds of all nodes
abbrev pub bounds_of : Format → List Node → List ℕ
bounds_of format nodes = bounds_from format nodes []
