use Rattle.std.proofs.Common.{◌≡◌, drop}
use Rattle.dsv_gain.specs.Narrowing.{are_narrower}
use Rattle.dsv_gain.proofs.box_ranges.are_narrower.Given as goal

abbrev pub invariant-loop-i : goal.invariant-loop-i
invariant-loop-i l = are_narrower (drop l.i l.a) (drop l.i l.b) ≡ are_narrower l.a l.b
