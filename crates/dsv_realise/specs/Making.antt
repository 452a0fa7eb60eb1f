-- Nodes made one after another: products, sums, lines and chains of lines.
use Rattle.std.specs.Prelude.{ℕ, Bool, false, if◌then◌else◌, List}
use Rattle.std.specs.Prelude.{[], ◌∷◌, ◌++◌, length, drop, ℤ, pos, ◌-ℤ◌}
use Rattle.dsv_netlist.specs.declared.node.Node.{Node}
use Rattle.dsv_netlist.specs.declared.node.Node.TheVariants.{MulConst, Round, Add, Sub, Fit}
use Rattle.dsv_netlist.specs.declared.node.Node.TheVariants.{Scale}
use Rattle.dsv_quantiser.specs.QuantisedView.{QuantisedView}
use Rattle.dsv_meaning.specs.declared.summands.Summand.{Summand}
use Rattle.dsv_meaning.specs.declared.summands.Summand.TheVariants.{Times, Alone}
use Rattle.dsv_meaning.specs.Lines.{has_product}
use Rattle.dsv_meaning.specs.Equations.{transposed_line, delta_line}

-- nodes, and the number of the one that has the value that is wanted
pub record Made : Type 0 where
  pub nodes : List Node
  pub place : ℕ

abbrev pub made_at : List Node → ℕ → Made
made_at nodes place = record { nodes = nodes; place = place }

abbrev pub put : List Node → Node → List Node
put nodes node = nodes ++ node ∷ []

-- the nodes of a product: it is divided by 2^frac_bits and made whole, and fitted
abbrev pub with_product : List Node → ℤ → ℕ → Made
with_product nodes coeff of =
    let multiplied = put nodes (MulConst coeff of) in
    let rounded = put multiplied (Round (length nodes)) in
    record { nodes = put rounded (Fit (length multiplied)); place = length rounded }

abbrev pub sum_node : Bool → ℕ → ℕ → Node
sum_node away left right = if away then Sub left right else Add left right

-- the nodes of a sum or a difference: it is fitted
abbrev pub with_sum : Bool → List Node → ℕ → ℕ → Made
with_sum away nodes left right =
    let summed = put nodes (sum_node away left right) in
    record { nodes = put summed (Fit (length nodes)); place = length summed }

-- ---- lines
-- a line starts with its first summand; a word alone needs no node
abbrev pub with_first : List Node → Summand ℕ → Made
with_first nodes (Times away coeff of) = with_product nodes coeff of
with_first nodes (Alone of) = record { nodes = nodes; place = of }

abbrev pub with_next : Made → Summand ℕ → Made
with_next m (Times away coeff of) = let factor = with_product m.nodes coeff of in
    with_sum away factor.nodes m.place factor.place
with_next m (Alone of) = with_sum false m.nodes m.place of

abbrev pub with_summands : Made → List (Summand ℕ) → Made
with_summands m [] = m
with_summands m (t ∷ ts) = with_summands (with_next m t) ts

-- the nodes of a line, in the order of its operations
abbrev pub with_narrow_line : List Node → List (Summand ℕ) → Made
with_narrow_line nodes [] = record { nodes = nodes; place = 0 }
with_narrow_line nodes (t ∷ ts) = with_summands (with_first nodes t) ts

-- ---- lines with a wide accumulator
-- the node of what a summand adds to the total, or takes away: a product as it is, and a word alone
-- times 2^frac_bits
abbrev pub exact_node : Summand ℕ → Node
exact_node (Times away coeff of) = MulConst coeff of
exact_node (Alone of) = Scale of

abbrev pub is_away : Summand ℕ → Bool
is_away (Times away coeff of) = away
is_away (Alone of) = false

-- a summand that stands first has its sign in its coefficient
abbrev pub first_exact_node : Summand ℕ → Node
first_exact_node (Times away coeff of) = MulConst (if away then pos 0 -ℤ coeff else coeff) of
first_exact_node (Alone of) = Scale of

abbrev pub with_first_exact : List Node → Summand ℕ → Made
with_first_exact nodes t =
    record { nodes = put nodes (first_exact_node t); place = length nodes }

abbrev pub with_next_exact : Made → Summand ℕ → Made
with_next_exact m t =
    let term = put m.nodes (exact_node t) in
    record {
      nodes = put term (sum_node (is_away t) m.place (length m.nodes));
      place = length term;
    }

abbrev pub with_exact_summands : Made → List (Summand ℕ) → Made
with_exact_summands m [] = m
with_exact_summands m (t ∷ ts) = with_exact_summands (with_next_exact m t) ts

abbrev pub with_total : List Node → List (Summand ℕ) → Made
with_total nodes [] = record { nodes = nodes; place = 0 }
with_total nodes (t ∷ ts) = with_exact_summands (with_first_exact nodes t) ts

-- the total is divided by 2^frac_bits and made whole, and fitted
abbrev pub with_rounded : Made → Made
with_rounded m =
    let rounded = put m.nodes (Round m.place) in
    record { nodes = put rounded (Fit (length m.nodes)); place = length rounded }

-- a word that stands first
abbrev pub first_place : List (Summand ℕ) → ℕ
first_place (Alone of ∷ ts) = of
first_place ts = 0

-- a line without a product is its one word, which needs no node
abbrev pub with_wide_line : List Node → List (Summand ℕ) → Made
with_wide_line nodes ts = if has_product ts then with_rounded (with_total nodes ts)
    else record { nodes = nodes; place = first_place ts }

-- ---- lines of either kind
abbrev pub with_line : Bool → List Node → List (Summand ℕ) → Made
with_line wide nodes ts = if wide then with_wide_line nodes ts else with_narrow_line nodes ts

-- a line of this controller
abbrev pub line_nodes : QuantisedView → List Node → List (Summand ℕ) → Made
line_nodes q nodes ts = with_line q.wide nodes ts

-- ---- chains of lines
-- nodes, and the numbers of those that have the new words of a chain
pub record Chained : Type 0 where
  pub nodes : List Node
  pub places : List ℕ

abbrev pub chained_at : List Node → List ℕ → Chained
chained_at nodes places = record { nodes = nodes; places = places }

abbrev pub no_places : List Node → Chained
no_places nodes = record { nodes = nodes; places = [] }

abbrev pub with_place : Chained → Made → Chained
with_place c m = record { nodes = m.nodes; places = c.places ++ m.place ∷ [] }

-- new s_i = b_i x - a_i y + old s_(i+1), where `s` are the nodes of old s_i and those after it
abbrev pub with_transposed : QuantisedView → ℕ → ℕ → List ℤ → List ℤ → List ℕ → Chained
    → Chained
with_transposed q x y (b ∷ bs) (a ∷ cs) s c =
    with_transposed q x y bs cs (drop 1 s)
    (with_place c (line_nodes q c.nodes (transposed_line b a x y (drop 1 s))))
with_transposed q x y _ _ s c = c

-- new w_j = old w_j + delta old w_(j-1), where `before` is the node of old w_(j-1)
abbrev pub with_delta : QuantisedView → ℕ → List ℕ → Chained → Chained
with_delta q before [] c = c
with_delta q before (w ∷ ws) c =
    with_delta q w ws (with_place c (line_nodes q c.nodes (delta_line q w before)))

-- new s_i = old s_i + delta (b_i x - a_i y + old s_(i+1))
abbrev pub with_transposed_delta : QuantisedView → ℕ → ℕ → List ℤ → List ℤ → List ℕ
    → Chained → Chained
with_transposed_delta q x y (b ∷ bs) (a ∷ cs) (s ∷ ss) c =
    let t = line_nodes q c.nodes (transposed_line b a x y ss) in
    with_transposed_delta q x y bs cs ss
    (with_place c (line_nodes q t.nodes (delta_line q s t.place)))
with_transposed_delta q x y _ _ _ c = c
