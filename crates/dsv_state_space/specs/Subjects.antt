-- What is asked of a state-space controller.
use Rattle.dsv_system.specs.Systems.{behaviour_of}
use Rattle.dsv_realise.specs.SubjectView.{SubjectView}
use Rattle.dsv_state_space.specs.Equations.{state_space_of, state_products}
use Rattle.dsv_state_space.specs.Netlists.{net_of_state}
use Rattle.dsv_state_space.specs.StateView.{StateView}

-- its equations, its inputs, and the netlist of these
abbrev pub of_states : StateView → SubjectView
of_states s = record {
  runs = behaviour_of (state_space_of s);
  low = s.xlo;
  high = s.xhi;
  products = state_products s;
  net = net_of_state s;
}
