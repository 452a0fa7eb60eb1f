use Rattle.std.proofs.Common.{rules}
use Rattle.dsv_cascade.proofs.Misfits.{first_misfit}
use Rattle.dsv_cascade.proofs.cascade.Cascade.new.Goals as goal

pub returns-in-Some-clause-refused : goal.returns-in-Some-clause-refused
returns-in-Some-clause-refused c = first_misfit c.args.first c.args.later.items c.in-Some.refusal (search rules) (search rules)
