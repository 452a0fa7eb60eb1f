use Rattle.std.proofs.Common.{◌≡◌, ◌^◌, ◌<◌, ◌++◌, drop, length, pos, unsigned_abs}
use Rattle.dsv_delta.specs.Differences.{differences}
use Rattle.dsv_delta.proofs.powers_of_z.times_z_less_one.Given as goal

abbrev pub invariant-loop-x : goal.invariant-loop-x
invariant-loop-x l = record {
  places : length l.list.items ≡ l.x-index;
  small : unsigned_abs l.before < 2 ^ 126;
  same : l.list.items ++ differences l.before (drop l.x-index l.q) l.e ≡ differences (pos 0) l.q l.e;
}
