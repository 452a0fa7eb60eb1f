use Rattle.dsv_cnf.proofs.PieceLemmas.{pieces-over}
use Rattle.dsv_cnf.proofs.formula.Formula.vars.Goals as goal

pub returns-clause-over : goal.returns-clause-over
returns-clause-over c = rw (← c.self.view_is) (pieces-over c.self.inside.vars c.self.inside.literals.items c.self.inside.bounds.items c.self.invariant.over)
