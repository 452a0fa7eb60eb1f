-- What makes nodes a netlist.
use Rattle.std.specs.Prelude.{ℕ, zero, suc, ◌+◌, ◌<◌, ◌≤◌, Bool, true, false}
use Rattle.std.specs.Prelude.{IsTrue, List, [], ◌∷◌, length, count_by}
use Rattle.std.specs.List.{All}
use Rattle.dsv_netlist.specs.declared.node.Node.{Node}
use Rattle.dsv_netlist.specs.declared.node.Node.TheVariants.{Input, Reg, MulConst}
use Rattle.dsv_netlist.specs.declared.node.Node.TheVariants.{Round, Add, Sub, Fit, Scale}
use Rattle.dsv_netlist.specs.Limits.{most_nodes, most_registers, most_exact, bound_limit}
use Rattle.dsv_netlist.specs.Nodes.{Net}
use Rattle.dsv_netlist.specs.Bounds.{bounds_of}

-- the nodes that this one names are among the first n
abbrev pub NamesBelow : ℕ → Node → Type 0
NamesBelow n Input = Unit {0}
NamesBelow n (Reg register) = Unit {0}
NamesBelow n (MulConst coeff of) = of < n
NamesBelow n (Round of) = of < n
NamesBelow n (Add left right) = (left < n) × (right < n)
NamesBelow n (Sub left right) = (left < n) × (right < n)
NamesBelow n (Fit of) = of < n
NamesBelow n (Scale of) = of < n

-- each node names nodes before it, where n nodes stand before these
abbrev pub AllNameBack : ℕ → List Node → Type 0
AllNameBack n [] = Unit {0}
AllNameBack n (node ∷ nodes) = NamesBelow n node × AllNameBack (n + 1) nodes

-- a register that this node reads is one of n
abbrev pub ReadsBelow : ℕ → Node → Type 0
ReadsBelow n Input = Unit {0}
ReadsBelow n (Reg register) = register < n
ReadsBelow n (MulConst coeff of) = Unit {0}
ReadsBelow n (Round of) = Unit {0}
ReadsBelow n (Add left right) = Unit {0}
ReadsBelow n (Sub left right) = Unit {0}
ReadsBelow n (Fit of) = Unit {0}
ReadsBelow n (Scale of) = Unit {0}

-- the node's value is a word
abbrev pub gives_word : Node → Bool
gives_word Input = true
gives_word (Reg register) = true
gives_word (MulConst coeff of) = false
gives_word (Round of) = false
gives_word (Add left right) = false
gives_word (Sub left right) = false
gives_word (Fit of) = true
gives_word (Scale of) = false

-- there is a node of this number, and its value is a word
abbrev pub names_word : List Node → ℕ → Bool
names_word [] k = false
names_word (node ∷ nodes) zero = gives_word node
names_word (node ∷ nodes) (suc k) = names_word nodes k

abbrev pub is_fit : Node → Bool
is_fit Input = false
is_fit (Reg register) = false
is_fit (MulConst coeff of) = false
is_fit (Round of) = false
is_fit (Add left right) = false
is_fit (Sub left right) = false
is_fit (Fit of) = true
is_fit (Scale of) = false

-- What Netlist::new accepts: few enough nodes, registers and exact values; no more registers are
-- feed-forward than there are; nodes name nodes before them and registers that are there; the
-- output and what loads a register are words; no bound reaches the limit.
pub record IsNetlist (net : Net) : Type 0 where
  pub few_nodes : length net.nodes ≤ most_nodes
  pub few_registers : length net.next ≤ most_registers
  pub few_exact : count_by is_fit net.nodes ≤ most_exact
  pub feed_forward : net.feed_forward ≤ length net.next
  pub backwards : AllNameBack 0 net.nodes
  pub registers : All (ReadsBelow (length net.next)) net.nodes
  pub output : IsTrue (names_word net.nodes net.output)
  pub next : All (λ k. IsTrue (names_word net.nodes k)) net.next
  pub bounded : All (λ bound. bound < bound_limit) (bounds_of net.format net.nodes)
