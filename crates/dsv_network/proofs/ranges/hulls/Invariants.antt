use Rattle.std.proofs.Common.{◌≡◌, take}
use Rattle.dsv_network.specs.Gains.{hulls}
use Rattle.dsv_network.proofs.ranges.hulls.Given as goal

abbrev pub invariant-loop-i : goal.invariant-loop-i
invariant-loop-i l = l.list ≡ hulls (take l.i l.a) (take l.i l.b)
