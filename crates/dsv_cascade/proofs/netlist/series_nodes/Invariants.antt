use Rattle.std.proofs.Common.{◌≡◌, ◌++◌, take, drop, map}
use Rattle.dsv_cascade.specs.Netlists.{moved}
use Rattle.dsv_cascade.proofs.netlist.series_nodes.Given as goal

abbrev pub invariant-loop-i : goal.invariant-loop-i
invariant-loop-i l = l.nodes.items ≡ l.first.nodes ++ map (moved l.first) (drop 1 (take l.i l.second.nodes))
