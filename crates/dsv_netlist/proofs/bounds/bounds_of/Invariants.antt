use Rattle.std.proofs.Common.{◌≡◌, ◌<◌, [], take, drop}
use Rattle.std.specs.List.{All}
use Rattle.dsv_netlist.specs.Limits.{bound_limit}
use Rattle.dsv_netlist.specs.Bounds.{bounds_from}
use Rattle.dsv_netlist.specs.Conditions.{AllNameBack}
use Rattle.dsv_netlist.proofs.bounds.bounds_of.Given as goal

abbrev pub invariant-loop-i : goal.invariant-loop-i
invariant-loop-i l = record {
  same : bounds_from l.format (drop l.i l.nodes) (take l.i l.bounds) ≡ bounds_from l.format l.nodes [];
  below : All (λ bound. bound < bound_limit) (take l.i l.bounds);
  backwards : AllNameBack l.i (drop l.i l.nodes);
}
