use Rattle.std.proofs.Common.{◌≡◌, drop}
use Rattle.dsv_rewrite.specs.Rules.{inputs_from}
use Rattle.dsv_rewrite.proofs.rewriting.put_inputs.Given as goal
use Rattle.dsv_term.specs.TermsView.{no_terms}

abbrev pub invariant-loop-width : goal.invariant-loop-width
invariant-loop-width l = inputs_from (drop l.width-index l.widths) l.terms ≡ inputs_from l.widths no_terms
