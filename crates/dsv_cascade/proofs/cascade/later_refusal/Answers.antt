use Rattle.std.proofs.Common.{rules}
use Rattle.dsv_cascade.proofs.Misfits.{later_misfit, one_more, all_of_them}
use Rattle.dsv_cascade.proofs.cascade.later_refusal.Goals as goal

pub returns-in-Some-clause-refused : goal.returns-in-Some-clause-refused
returns-in-Some-clause-refused c = later_misfit c.args.first.now c.index-later-i.result c.args.later.now c.loop-i.i c.in-Some.refusal c.requires.first c.loop-i.invariant c.loop-i-test.true c.index-later-i.is (search rules) (search rules)

pub loop-i-preserved : goal.loop-i-preserved
loop-i-preserved c = one_more c.args.first.now c.index-later-i.result c.args.later.now c.loop-i.i c.loop-i.invariant c.loop-i-test.true c.index-later-i.is (search rules)

pub returns-clause-fit : goal.returns-clause-fit
returns-clause-fit c = all_of_them c.args.first.now c.args.later.now c.loop-i.i c.requires.first c.loop-i.invariant (search rules)
