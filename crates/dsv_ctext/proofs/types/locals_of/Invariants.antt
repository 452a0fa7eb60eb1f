use Rattle.dsv_ctext.proofs.PlanLocals.{LocalsAt}
use Rattle.dsv_ctext.proofs.types.locals_of.Given as goal

abbrev pub invariant-loop-i : goal.invariant-loop-i
invariant-loop-i l = LocalsAt l.net l.i l.locals l.count
