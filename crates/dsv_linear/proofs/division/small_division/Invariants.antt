use Rattle.std.proofs.Common.{◌≡◌, ◌^◌}
use Rattle.std.specs.Prelude.{Some}
use Rattle.dsv_algebra.specs.Floor.{floor_of}
use Rattle.dsv_netlist.specs.Nodes.{at}
use Rattle.dsv_linear.specs.Forms.{entries}
use Rattle.dsv_linear.specs.SmallSums.{IsSum}
use Rattle.dsv_linear.proofs.Divisions.{low_term, high_term}
use Rattle.dsv_linear.proofs.division.small_division.Given as goal

abbrev pub invariant-loop-j : goal.invariant-loop-j
invariant-loop-j l = (entries l.j (λ j. floor_of (at l.list j) (2 ^ l.bits)) ≡ Some l.quotients)
    × (IsSum (low_term l.ranges (2 ^ l.bits) l.list) l.j l.low × IsSum (high_term l.ranges (2 ^ l.bits) l.list) l.j l.high)
