use Rattle.std.proofs.Common.{◌≡◌, take}
use Rattle.dsv_gain.specs.Narrowing.{meets}
use Rattle.dsv_gain.proofs.box_ranges.meets.Given as goal

abbrev pub invariant-loop-i : goal.invariant-loop-i
invariant-loop-i l = l.list ≡ meets (take l.i l.a) (take l.i l.b)
