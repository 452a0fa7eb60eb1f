use Rattle.std.proofs.Common.{append_assoc}
use Rattle.dsv_blast.proofs.CodeSteps.{run-step}
use Rattle.dsv_blast.proofs.goal_formula.run.Goals as goal

pub loop-i-preserved : goal.loop-i-preserved
loop-i-preserved c =
    rw (c.in_ok-push.ensures.ok, append_assoc, c.new.ensures)
    (rw (run-step c.args.first c.args.width c.loop-i.i c.loop-i-test.true) at c.loop-i.invariant)
