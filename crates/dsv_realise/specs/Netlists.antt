-- The netlists of the six realisations. N is the order.
use Rattle.std.specs.Prelude.{ℕ, zero, suc, ◌+◌, List, [], ◌∷◌, ◌++◌, drop}
use Rattle.dsv_names.specs.declared.realisation.Realisation.{Realisation}
use Rattle.dsv_names.specs.declared.realisation.Realisation.TheVariants.{Dfi, Dfii, Tdfii}
use Rattle.dsv_names.specs.declared.realisation.Realisation.TheVariants.{Ddfi, Ddfii, Tddfii}
use Rattle.dsv_quantiser.specs.QuantisedView.{QuantisedView}
use Rattle.dsv_netlist.specs.declared.node.Node.{Node}
use Rattle.dsv_netlist.specs.declared.node.Node.TheVariants.{Input, Reg}
use Rattle.dsv_netlist.specs.Nodes.{Net}
use Rattle.dsv_meaning.specs.declared.summands.Summand.TheVariants.{Alone}
use Rattle.dsv_meaning.specs.Equations.{order, feedback, forward_summands, feedback_summands}
use Rattle.dsv_meaning.specs.Equations.{transposed_output, forward_registers_of}
use Rattle.dsv_realise.specs.Making.{Made, line_nodes, Chained, no_places}
use Rattle.dsv_realise.specs.Making.{with_transposed, with_delta, with_transposed_delta}

-- ---- the nodes that every netlist begins with
abbrev pub registers_from : ℕ → ℕ → List Node
registers_from k zero = []
registers_from k (suc n) = Reg k ∷ registers_from (k + 1) n

-- node 0 is the input, node k + 1 is register k
abbrev pub sources : ℕ → List Node
sources n = Input ∷ registers_from 0 n

-- ---- numbers of nodes
-- n numbers from k on
abbrev pub count : ℕ → ℕ → List ℕ
count k zero = []
count k (suc n) = k ∷ count (k + 1) n

-- n registers that shift: node i goes into the first, nodes k, k + 1, .. into the others
abbrev pub shift : ℕ → ℕ → ℕ → List ℕ
shift i k zero = []
shift i k (suc n) = i ∷ count k n

-- the nodes of w(n), w(n-1), .., where w(n) is the word of node p and the others are in registers
-- from the first on
abbrev pub newest_at : ℕ → ℕ → ℕ
newest_at p zero = p
newest_at p (suc i) = suc i

-- ---- lines that two realisations share
-- y = b_0 x + .. + b_N x_N - a_1 y_1 - .. - a_N y_N, with x_1 to x_N in the first registers and
-- then y_1 to y_N
abbrev pub first_form : QuantisedView → Made
first_form q = line_nodes q (sources (order q + order q))
    (forward_summands q (λ i. i) ++ feedback_summands q (λ i. i) (order q + 1))

-- w_0 = x - a_1 w_1 - .. - a_N w_N, with w_1 to w_N in the registers
abbrev pub second_form_state : QuantisedView → Made
second_form_state q = line_nodes q (sources (order q)) (Alone 0 ∷ feedback_summands q (λ i. i) 1)

-- y = b_0 w_0 + .. + b_N w_N after it
abbrev pub second_form : QuantisedView → Made
second_form q = line_nodes q (second_form_state q).nodes
    (forward_summands q (newest_at (second_form_state q).place))

-- y = b_0 x + s_1, with s_1 to s_N in the registers
abbrev pub transposed_form : QuantisedView → Made
transposed_form q = line_nodes q (sources (order q)) (transposed_output q 0 (count 1 (order q)))

-- ---- what stands after them: the nodes of all new words of the registers
abbrev pub transposed_nodes : QuantisedView → Chained
transposed_nodes q =
    let y = transposed_form q in
    with_transposed q 0 y.place (drop 1 q.b) (feedback q) (count 1 (order q)) (no_places y.nodes)

-- the new words of x_1 to x_N, each with delta times the one before it
abbrev pub delta_inputs : QuantisedView → Chained
delta_inputs q = with_delta q 0 (count 1 (order q)) (no_places (first_form q).nodes)

-- and those of y_1 to y_N
abbrev pub delta_outputs : QuantisedView → Chained
delta_outputs q = with_delta q (first_form q).place (count (order q + 1) (order q))
    (no_places (delta_inputs q).nodes)

abbrev pub delta_states : QuantisedView → Chained
delta_states q = with_delta q (second_form_state q).place (count 1 (order q))
    (no_places (second_form q).nodes)

abbrev pub transposed_delta_nodes : QuantisedView → Chained
transposed_delta_nodes q =
    let y = transposed_form q in
    with_transposed_delta q 0 y.place (drop 1 q.b) (feedback q) (count 1 (order q))
    (no_places y.nodes)

-- ---- netlists
abbrev pub net_with : QuantisedView → Realisation → List Node → List ℕ → ℕ → Net
net_with q realisation nodes next output =
    record {
      nodes = nodes;
      next = next;
      output = output;
      feed_forward = forward_registers_of realisation (order q);
      format = q.format;
    }

-- what the registers are loaded from, and the output
abbrev pub net_as : Realisation → QuantisedView → Net
net_as Dfi q = net_with q Dfi (first_form q).nodes
    (shift 0 1 (order q) ++ shift (first_form q).place (order q + 1) (order q)) (first_form q).place
net_as Dfii q = net_with q Dfii (second_form q).nodes
    (shift (second_form_state q).place 1 (order q)) (second_form q).place
net_as Tdfii q = net_with q Tdfii (transposed_nodes q).nodes (transposed_nodes q).places
    (transposed_form q).place
net_as Ddfi q = net_with q Ddfi (delta_outputs q).nodes
    ((delta_inputs q).places ++ (delta_outputs q).places) (first_form q).place
net_as Ddfii q = net_with q Ddfii (delta_states q).nodes (delta_states q).places
    (second_form q).place
net_as Tddfii q = net_with q Tddfii (transposed_delta_nodes q).nodes
    (transposed_delta_nodes q).places (transposed_form q).place

-- the netlist of a quantised controller
abbrev pub net_of : QuantisedView → Net
net_of q = net_as q.realisation q
