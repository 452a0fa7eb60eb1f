-- What contracts say of terms.
use Rattle.std.specs.Prelude.{◌≡◌, ◌≢◌, ℕ, ◌^◌, ◌<◌, List, [], ◌∷◌, ◌++◌}
use Rattle.std.specs.Prelude.{length, slice_index, slice_get, All, AllPairs}
use Rattle.dsv_term.specs.declared.node.TermId.{TermId}
use Rattle.dsv_term.specs.declared.node.TermNode.{TermNode}
use Rattle.dsv_term.specs.declared.node.TermNode.TheVariants.{Input}
use Rattle.dsv_term.specs.declared.word.Word.{Word}
use Rattle.dsv_term.specs.Building.{built_of, with_node, with_new_input}
use Rattle.dsv_term.specs.Making.{made_nodes, made_id}
use Rattle.dsv_term.specs.TermNode.{word_at, words_from, widths_from, node_width, AreLawful}
use Rattle.dsv_term.specs.TermsView.{TermsView}
use Rattle.dsv_term.specs.Word.{IsWidth}

-- the width of each term
abbrev pub widths_of : TermsView → List ℕ
widths_of t = widths_from t.inputs t.nodes []

abbrev pub width_of : TermsView → TermId → ℕ
width_of t id = slice_index (widths_of t) id.0

-- A term that stands, of so many bits.
pub record HasBits (t : TermsView) (id : TermId) (bits : ℕ) : Type 0 where
  pub stands : id.0 < length t.nodes
  pub width : width_of t id ≡ bits

-- the word of each term, where the inputs have these values
abbrev pub words_of : TermsView → List ℕ → List Word
words_of t values = words_from t.inputs values t.nodes []

abbrev pub word_of : TermsView → List ℕ → TermId → Word
word_of t values id = word_at (words_of t values) id

-- Terms are fewer than 2^31 lawful nodes, no two of which are the same.
pub record AreTerms (t : TermsView) : Type 0 where
  pub few : length t.nodes < 2 ^ 31
  pub inputs : All IsWidth t.inputs
  pub lawful : AreLawful t.inputs t.nodes []
  pub apart : AllPairs (λ a b. a ≢ b) t.nodes

-- Every input has a value, which its bits can spell.
pub record AreValues (inputs values : List ℕ) : Type 0 where
  pub count : length values ≡ length inputs
  pub fit : (k : ℕ) → k < length inputs → slice_index values k < 2 ^ slice_index inputs k

-- Earlier terms keep their nodes, widths and words.
pub record KeepsTerms (old new : TermsView) : Type 0 where
  pub longer : (id : TermId) → id.0 < length old.nodes → id.0 < length new.nodes
  pub nodes : (id : TermId) → id.0 < length old.nodes
      → slice_get new.nodes id.0 ≡ slice_get old.nodes id.0
  pub widths : (id : TermId) → id.0 < length old.nodes → width_of new id ≡ width_of old id
  pub words : (values : List ℕ) (id : TermId) → id.0 < length old.nodes
      → word_of new values id ≡ word_of old values id

-- The node stands at this number now: where it stood it is found there, and else it was put last.
pub record Makes (old new : TermsView) (node : TermNode) (made : TermId) : Type 0 where
  pub built : built_of new made ≡ with_node old node
  pub nodes : new ≡ record old { nodes = made_nodes old.nodes node }
  pub id : made.0 ≡ made_id old.nodes node
  pub stands : made.0 < length new.nodes
  pub width : width_of new made ≡ node_width old.inputs (widths_of old) node
  pub kept : KeepsTerms old new

-- One more input of this width, and its term, stand after the earlier ones.
pub record MakesInput (old new : TermsView) (bits : ℕ) (made : TermId) : Type 0 where
  pub built : built_of new made ≡ with_new_input old bits
  pub terms : new ≡ record {
    inputs = old.inputs ++ bits ∷ [];
    nodes = old.nodes ++ Input (length old.inputs) ∷ [];
  }
  pub id : made.0 ≡ length old.nodes
  pub width : width_of new made ≡ bits
  pub kept : KeepsTerms old new
