use Rattle.std.proofs.Common.{◌∷◌, take}
use Rattle.dsv_cascade.proofs.CascadeNets.{IsSeriesNet}
use Rattle.dsv_cascade.proofs.netlist.cascade_net.Given as goal

abbrev pub invariant-loop-quantised : goal.invariant-loop-quantised
invariant-loop-quantised l = IsSeriesNet l.cascade.first.format (l.cascade.first ∷ take l.quantised-index l.cascade.later) l.net
