-- What is asked of a quantised controller.
use Rattle.dsv_quantiser.specs.QuantisedView.{QuantisedView}
use Rattle.dsv_system.specs.Systems.{behaviour_of}
use Rattle.dsv_meaning.specs.Equations.{order, products_of}
use Rattle.dsv_meaning.specs.Systems.{equations_of}
use Rattle.dsv_realise.specs.SubjectView.{SubjectView}
use Rattle.dsv_realise.specs.Netlists.{net_of}

-- its written equations, its inputs, and the netlist of its realisation
abbrev pub of_controller : QuantisedView → SubjectView
of_controller q = record {
  runs = behaviour_of (equations_of q);
  low = q.xlo;
  high = q.xhi;
  products = products_of q.realisation (order q);
  net = net_of q;
}
