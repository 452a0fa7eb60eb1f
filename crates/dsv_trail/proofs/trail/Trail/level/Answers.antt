use Rattle.std.proofs.Common.{arith}
use Rattle.dsv_trail.proofs.LevelLemmas.{few-levels}
use Rattle.dsv_trail.proofs.trail.Trail.level.Goals as goal

pub overflow_cast-result : goal.overflow_cast-result
overflow_cast-result c =
    let i = c.self.invariant in
    omega (arith, few-levels c.self.inside.limits.items c.self.inside.marks.marks i.levels, i.few, i.small)
