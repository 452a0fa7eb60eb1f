-- Terms that are built node after node.
use Rattle.std.specs.Prelude.{ℕ, [], ◌∷◌, ◌++◌, length}
use Rattle.dsv_term.specs.declared.node.TermId.{TermId}
use Rattle.dsv_term.specs.declared.node.TermNode.{TermNode}
use Rattle.dsv_term.specs.declared.node.TermNode.TheVariants.{Input}
use Rattle.dsv_term.specs.Making.{made_nodes, made_id}
use Rattle.dsv_term.specs.TermsView.{TermsView}

-- terms, and which of them is meant
pub record Built : Type 0 where
  pub terms : TermsView
  pub id : TermId

abbrev pub built_of : TermsView → TermId → Built
built_of terms id = record { terms = terms; id = id }

-- the terms with this node, which is put last unless it stands there, and its number
unfoldable pub with_node : TermsView → TermNode → Built
with_node t node = record {
  terms = record t { nodes = made_nodes t.nodes node };
  id = record { 0 = made_id t.nodes node };
}

-- the terms with one more input of this width, and the number of its node
unfoldable pub with_new_input : TermsView → ℕ → Built
with_new_input t bits = record {
  terms = record {
    inputs = t.inputs ++ bits ∷ [];
    nodes = t.nodes ++ Input (length t.inputs) ∷ [];
  };
  id = record { 0 = length t.nodes };
}
