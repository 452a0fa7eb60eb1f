-- Which netlists have a program: those whose values all fit in 64 bits.
use Rattle.std.specs.Prelude.{◌≡◌, ℕ, ◌+◌, ◌<◌, length, take, count_by, slice_index}
use Rattle.std.specs.Prelude.{slice_index_or}
use Rattle.std.specs.Int.RustNames.{unsigned_abs}
use Rattle.dsv_netlist.specs.declared.node.Node.{Node}
use Rattle.dsv_netlist.specs.declared.node.Node.TheVariants.{Input, Reg, MulConst}
use Rattle.dsv_netlist.specs.declared.node.Node.TheVariants.{Round, Add, Sub, Fit, Scale}
use Rattle.dsv_netlist.specs.Nodes.{Net}
use Rattle.dsv_netlist.specs.Bounds.{bounds_of}
use Rattle.dsv_netlist.specs.Conditions.{is_fit}
use Rattle.dsv_c.specs.declared.c_type.CType.TheVariants.{Int64}
use Rattle.dsv_c.specs.Meaning.{limit}
use Rattle.dsv_c.specs.Programs.{headroom}

-- the node's coefficient is a constant of C
abbrev pub HasConstant : Node → Type 0
HasConstant Input = Unit {0}
HasConstant (Reg register) = Unit {0}
HasConstant (MulConst coeff of) = unsigned_abs coeff < limit Int64
HasConstant (Round of) = Unit {0}
HasConstant (Add left right) = Unit {0}
HasConstant (Sub left right) = Unit {0}
HasConstant (Fit of) = Unit {0}
HasConstant (Scale of) = Unit {0}

abbrev pub node_at : Net → ℕ → Node
node_at net i = slice_index_or net.nodes i Input

-- the value of node i doesn't need more than int64_t, with what rounding and fitting add to it
abbrev pub HasRoom : Net → ℕ → Type 0
HasRoom net i = slice_index (bounds_of net.format net.nodes) i + headroom net.format < limit Int64

-- node i has an expression
abbrev pub IsCodableNode : Net → ℕ → Type 0
IsCodableNode net i = HasConstant (node_at net i) × HasRoom net i

-- so have the nodes before node n
abbrev pub AreCodable : Net → ℕ → Type 0
AreCodable net n = (i : ℕ) → i < n → IsCodableNode net i

-- so have all
abbrev pub IsCodable : Net → Type 0
IsCodable net = AreCodable net (length net.nodes)

-- value v, counted as reports count them, is the first that needs more than int64_t: so many nodes
-- that fit a value stand before the first node that has no expression
pub record IsWideValue (net : Net) (v : ℕ) : Type 0 where
  pub node : ℕ
  pub there : node < length net.nodes
  pub before : AreCodable net node
  pub wide : IsCodableNode net node → ⊥
  pub count : v ≡ count_by is_fit (take node net.nodes)
