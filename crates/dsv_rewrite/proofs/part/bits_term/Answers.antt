use Rattle.std.proofs.Common.{arith}
use Rattle.dsv_rewrite.proofs.PartSteps.{part_small}
use Rattle.dsv_rewrite.proofs.part.bits_term.Goals as goal

pub overflow_add-part : goal.overflow_add-part
overflow_add-part c = omega (arith, part_small c.args.terms.now c.args.part c.requires.sound c.requires.part)
