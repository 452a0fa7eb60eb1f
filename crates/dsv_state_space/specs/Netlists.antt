-- The netlist of a state-space controller.
use Rattle.std.specs.Prelude.{List, ◌∷◌, ℤ}
use Rattle.dsv_netlist.specs.declared.node.Node.{Node}
use Rattle.dsv_netlist.specs.Nodes.{Net}
use Rattle.dsv_realise.specs.Making.{Made, with_narrow_line, Chained, no_places, with_place}
use Rattle.dsv_realise.specs.Netlists.{sources}
use Rattle.dsv_state_space.specs.Equations.{state_summands}
use Rattle.dsv_state_space.specs.StateView.{StateView, states}

-- node 0 is the input, and the nodes after it are the registers; so these are the nodes of a line
-- after others
abbrev pub with_state_line : List Node → ℤ → List ℤ → Made
with_state_line nodes first row = with_narrow_line nodes (state_summands first row 0 (λ i. i) 1)

-- the output's line
abbrev pub output_of : StateView → Made
output_of s = with_state_line (sources (states s)) s.d s.c

-- the nodes of the new states
abbrev pub with_states : List ℤ → List (List ℤ) → Chained → Chained
with_states (b ∷ bs) (row ∷ rows) c =
    with_states bs rows (with_place c (with_state_line c.nodes b row))
with_states _ _ c = c

abbrev pub states_of : StateView → Chained
states_of s = with_states s.b s.a (no_places (output_of s).nodes)

-- the netlist: the input, the registers, and then the operations of the output's line and of the
-- line of each new state
abbrev pub net_of_state : StateView → Net
net_of_state s = record {
  nodes = (states_of s).nodes;
  next = (states_of s).places;
  output = (output_of s).place;
  feed_forward = 0;
  format = s.format;
}
