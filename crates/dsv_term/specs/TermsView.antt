use Rattle.std.specs.Prelude.{ℕ, List, []}
use Rattle.dsv_term.specs.declared.node.TermNode.{TermNode}

-- What terms are seen as: the width of each input, and the nodes in the order in which they were
-- made.
pub record TermsView : Type 0 where
  pub inputs : List ℕ
  pub nodes : List TermNode

abbrev pub no_terms : TermsView
no_terms = record { inputs = []; nodes = [] }
