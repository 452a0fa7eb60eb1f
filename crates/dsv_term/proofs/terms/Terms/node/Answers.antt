use Rattle.dsv_term.specs.declared.node.TermNode.TheVariants.{Input}
use Rattle.dsv_term.proofs.Made.{only_there}
use Rattle.dsv_term.proofs.terms.Terms.node.Goals as goal

pub returns-clause-only : goal.returns-clause-only
returns-clause-only c = rw (← c.self.view_is, c.as_slice.ensures.keys) (only_there c.self.inside.nodes.keys c.args.id.0 (Input 0) c.self.invariant.terms.apart (rw (← c.self.view_is) at c.requires))
