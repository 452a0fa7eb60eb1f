use Rattle.std.proofs.Common.{◌-◌}
use Rattle.dsv_solver.proofs.order.Order.sink.Given as goal

abbrev pub decreases-loop-place : goal.decreases-loop-place
decreases-loop-place l = l.len - l.place
