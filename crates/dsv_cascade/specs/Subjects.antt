-- What is asked of a cascade.
use Rattle.dsv_system.specs.Systems.{behaviour_of}
use Rattle.dsv_realise.specs.SubjectView.{SubjectView}
use Rattle.dsv_cascade.specs.Cascades.{CascadeView, sections_of, cascade_of}
use Rattle.dsv_cascade.specs.Netlists.{net_of_cascade}
use Rattle.dsv_cascade.specs.Sizes.{sections_products}

-- its inputs are section 0's
abbrev pub of_cascade : CascadeView → SubjectView
of_cascade c = record {
  runs = behaviour_of (cascade_of c);
  low = c.first.xlo;
  high = c.first.xhi;
  products = sections_products (sections_of c);
  net = net_of_cascade c;
}
