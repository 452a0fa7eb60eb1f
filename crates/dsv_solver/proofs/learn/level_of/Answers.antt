use Rattle.dsv_trail.proofs.PlaceLemmas.{level-of-false, set-of-false}
use Rattle.dsv_solver.proofs.learn.level_of.Goals as goal

pub level_of-requires-clause-set : goal.level_of-requires-clause-set
level_of-requires-clause-set c = rw c.var.ensures.value (set-of-false c.args.trail.now.vars c.args.trail.now.marks c.args.literal c.len-count.ensures.whole.marks c.requires.is_false)

pub returns : goal.returns
returns c = level-of-false c.args.trail.now c.args.literal c.level_of.result c.len-count.ensures.whole c.requires.is_false (rw c.var.ensures.value at c.level_of.ensures.value)
