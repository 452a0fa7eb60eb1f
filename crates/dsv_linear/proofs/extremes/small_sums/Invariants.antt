use Rattle.std.proofs.Common.{◌-◌}
use Rattle.dsv_linear.specs.SmallSums.{AreSums}
use Rattle.dsv_linear.specs.Forms.{range}
use Rattle.dsv_linear.proofs.extremes.small_sums.Given as goal

abbrev pub invariant-loop-j : goal.invariant-loop-j
invariant-loop-j l = AreSums l.ranges l.list l.from (l.j - l.from) (range l.low l.high)
