use Rattle.std.proofs.Common.{drop}
use Rattle.dsv_netlist.specs.Conditions.{AllNameBack}
use Rattle.dsv_netlist.proofs.conditions.all_name_back.Given as goal

abbrev pub invariant-loop-i : goal.invariant-loop-i
invariant-loop-i l = record {
  onwards : AllNameBack l.i (drop l.i l.nodes) → AllNameBack 0 l.nodes;
  back : AllNameBack 0 l.nodes → AllNameBack l.i (drop l.i l.nodes);
}
