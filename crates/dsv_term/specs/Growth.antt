-- Serves private contracts of the crates that build terms: what stays and what is added.
use Rattle.std.specs.Prelude.{◌≡◌, ℕ, ◌<◌, [], length, All}
use Rattle.dsv_term.specs.declared.node.TermId.{TermId}
use Rattle.dsv_term.specs.TermNode.{AreLawful}
use Rattle.dsv_term.specs.Terms.{KeepsTerms, width_of}
use Rattle.dsv_term.specs.TermsView.{TermsView}
use Rattle.dsv_term.specs.Word.{IsWidth}

-- The inputs have lawful widths, and each node is lawful after those before it.
pub record AreSound (t : TermsView) : Type 0 where
  pub inputs : All IsWidth t.inputs
  pub lawful : AreLawful t.inputs t.nodes []

-- Sound terms over the same inputs that keep the earlier ones, and a term of so many bits among
-- them.
pub record Adds (old new : TermsView) (id : TermId) (bits : ℕ) : Type 0 where
  pub sound : AreSound new
  pub inputs : new.inputs ≡ old.inputs
  pub kept : KeepsTerms old new
  pub stands : id.0 < length new.nodes
  pub width : width_of new id ≡ bits
