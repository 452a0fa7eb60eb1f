use Rattle.std.proofs.Common.{sym, ◌∙◌}
use Rattle.dsv_solver.proofs.Steps.{open-some}
use Rattle.dsv_solver.proofs.propagate.find_next.Goals as goal

pub returns-in-Some-find_open : goal.returns-in-Some-find_open
returns-in-Some-find_open c = open-some c.args.trail.now.marks c.args.other c.args.clause.now c.in-Some-find_open.literal (sym c.find_open.ensures ∙ c.in-Some-find_open.is)
