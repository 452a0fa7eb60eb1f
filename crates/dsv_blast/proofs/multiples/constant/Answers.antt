use Rattle.std.proofs.Common.{append_assoc}
use Rattle.dsv_blast.proofs.CodeSteps.{constant-step}
use Rattle.dsv_blast.proofs.multiples.constant.Goals as goal

pub loop-i-preserved : goal.loop-i-preserved
loop-i-preserved c =
    rw (c.in_ok-push.ensures.ok, append_assoc, c.says.ensures)
    (rw (constant-step c.args.one c.args.width c.loop-i.i c.loop-i.rest c.loop-i-test.true) at c.loop-i.invariant)
