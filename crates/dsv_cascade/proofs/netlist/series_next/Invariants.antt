use Rattle.std.proofs.Common.{◌≡◌, ◌++◌, take, map}
use Rattle.dsv_cascade.specs.Netlists.{moved_place}
use Rattle.dsv_cascade.proofs.netlist.series_next.Given as goal

abbrev pub invariant-loop-k : goal.invariant-loop-k
invariant-loop-k l = l.next.items ≡ l.first.next ++ map (moved_place l.first) (take l.k l.second.next)
