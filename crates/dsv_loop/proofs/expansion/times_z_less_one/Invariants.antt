use Rattle.std.proofs.Common.{◌≡◌, ◌++◌, drop, pos}
use Rattle.dsv_delta.specs.Differences.{differences}
use Rattle.dsv_loop.proofs.expansion.times_z_less_one.Given as goal

abbrev pub invariant-loop-x : goal.invariant-loop-x
invariant-loop-x l = l.list ++ differences l.before (drop l.x-index l.q) l.e ≡ differences (pos 0) l.q l.e
