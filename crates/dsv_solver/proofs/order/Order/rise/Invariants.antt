use Rattle.dsv_solver.proofs.order.Order.rise.Given as goal

abbrev pub decreases-loop-place : goal.decreases-loop-place
decreases-loop-place l = l.place
