use Rattle.std.proofs.Common.{arith}
use Rattle.dsv_unroll.proofs.RuleTerms.{width_for-least}
use Rattle.dsv_unroll.proofs.rules.difference_term.Goals as goal

pub widened_term-requires-clause-narrow : goal.widened_term-requires-clause-narrow
widened_term-requires-clause-narrow c = omega (arith, c.requires.left.narrow, c.requires.right.narrow, width_for-least c.args.bound 126 (omega arith) c.requires.small)

pub widened_term-requires-2-clause-narrow : goal.widened_term-requires-2-clause-narrow
widened_term-requires-2-clause-narrow c = omega (arith, c.requires.left.narrow, c.requires.right.narrow, width_for-least c.args.bound 126 (omega arith) c.requires.small)
