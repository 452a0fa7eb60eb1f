use Rattle.std.proofs.Common.{refl}
use Rattle.dsv_trail.proofs.PlaceLemmas.{set-cases}
use Rattle.dsv_solver.proofs.Empty.{full_more}
use Rattle.dsv_solver.proofs.search.first_open.Goals as goal

pub loop-var-preserved : goal.loop-var-preserved
loop-var-preserved c =
    full_more c.args.trail.now c.loop-var.var c.new-literal.result c.new-literal.ensures
    (set-cases c.args.trail.now.marks c.new-literal.result (c.value.ensures.set (rw c.in-Some.is refl))) c.loop-var.invariant
