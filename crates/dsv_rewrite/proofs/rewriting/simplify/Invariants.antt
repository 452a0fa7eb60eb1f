use Rattle.dsv_rewrite.specs.Rules.{rewritten_from}
use Rattle.dsv_rewrite.proofs.PassRules.{IsNextPass}
use Rattle.dsv_rewrite.proofs.Starts.{first_terms}
use Rattle.dsv_rewrite.proofs.rewriting.simplify.Given as goal

abbrev pub invariant-loop-node : goal.invariant-loop-node
invariant-loop-node l = IsNextPass l.goal.terms l.node-index l.terms l.ids.items (rewritten_from l.goal.terms.nodes (first_terms l.goal.terms))
