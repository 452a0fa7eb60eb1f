-- Serves private contracts: what the rules for bits, digits and nodes ask for.
use Rattle.std.specs.Prelude.{◌≡◌, ℕ, ◌+◌, ◌<◌, ◌≤◌, ◌^◌, List, length, ℤ, pos, neg_ℤ, ◌≤ℤ◌}
use Rattle.dsv_term.specs.Limits.{max_width}
use Rattle.dsv_term.specs.declared.node.TermId.{TermId}
use Rattle.dsv_term.specs.declared.node.TermNode.{TermNode}
use Rattle.dsv_term.specs.declared.node.TermNode.TheVariants.{Input, Constant, Add, Sub, Slt}
use Rattle.dsv_term.specs.declared.node.TermNode.TheVariants.{Sle, Ult, Eq, And, Or, Concat, Neg}
use Rattle.dsv_term.specs.declared.node.TermNode.TheVariants.{Not, MulConst, Sext, Extract, Ite}
use Rattle.dsv_term.specs.TermNode.{IsConstant}
use Rattle.dsv_term.specs.Terms.{width_of, HasBits}
use Rattle.dsv_term.specs.TermsView.{TermsView}
use Rattle.dsv_rewrite.specs.declared.digits.Copies as code
use Rattle.dsv_rewrite.specs.declared.digits.Copies.TheVariants as code_copies
use Rattle.dsv_rewrite.specs.declared.part.Part.{Part}
use Rattle.dsv_rewrite.specs.Rules.{term_of}
use Rattle.dsv_rewrite.specs.Digits.{Copies, none, sum, negated_sum, Multiple}

-- Bits of a term that stands.
pub record IsPart (t : TermsView) (p : Part) : Type 0 where
  pub stands : p.of.0 < length t.nodes
  pub order : p.low ≤ p.high
  pub inside : p.high < width_of t p.of

-- the copies that the code has
abbrev pub copies_of : code.Copies → Copies
copies_of code_copies.None = none
copies_of (code_copies.Sum a) = sum a
copies_of (code_copies.NegatedSum a) = negated_sum a

abbrev pub multiple_of : TermsView → Copies → Multiple
multiple_of t copies = record { terms = t; copies = copies }

-- The sum of the copies so far, if there is one, has so many bits.
abbrev pub AreCopies : TermsView → Copies → ℕ → Type 0
AreCopies t none bits = Unit {0}
AreCopies t (sum a) bits = HasBits t a bits
AreCopies t (negated_sum a) bits = HasBits t a bits

-- A number that is far from the ends of 128 bits.
pub record IsSmall (z : ℤ) : Type 0 where
  pub low : neg_ℤ (pos (2 ^ 64)) ≤ℤ z
  pub high : z ≤ℤ pos (2 ^ 64)

-- ---- nodes over terms that earlier nodes became
-- An earlier node became a term that stands.
pub record IsReadyTerm (t : TermsView) (ids : List TermId) (a : TermId) : Type 0 where
  pub known : a.0 < length ids
  pub stands : (term_of ids a).0 < length t.nodes

-- Two that became terms of one width.
pub record AreReadyTerms (t : TermsView) (ids : List TermId) (a b : TermId) : Type 0 where
  pub first : IsReadyTerm t ids a
  pub second : IsReadyTerm t ids b
  pub alike : width_of t (term_of ids a) ≡ width_of t (term_of ids b)

-- Two that became terms that are not too wide together.
pub record AreReadyParts (t : TermsView) (ids : List TermId) (a b : TermId) : Type 0 where
  pub first : IsReadyTerm t ids a
  pub second : IsReadyTerm t ids b
  pub narrow : width_of t (term_of ids a) + width_of t (term_of ids b) ≤ max_width

-- One that became a term that is at most so wide.
pub record IsReadyExtension (t : TermsView) (ids : List TermId) (a : TermId) (width : ℕ)
    : Type 0 where
  pub term : IsReadyTerm t ids a
  pub wider : width_of t (term_of ids a) ≤ width
  pub narrow : width ≤ max_width

-- One that became a term with these bits.
pub record IsReadyExtract (t : TermsView) (ids : List TermId) (a : TermId) (high low : ℕ)
    : Type 0 where
  pub term : IsReadyTerm t ids a
  pub order : low ≤ high
  pub inside : high < width_of t (term_of ids a)

-- One that became a bit, and two that became terms of one width.
pub record IsReadyChoice (t : TermsView) (ids : List TermId) (c a b : TermId) : Type 0 where
  pub condition : IsReadyTerm t ids c
  pub bit : width_of t (term_of ids c) ≡ 1
  pub terms : AreReadyTerms t ids a b

-- What a node refers to became terms that are as wide as SMT-LIB asks it.
abbrev pub IsReady : TermsView → List TermId → TermNode → Type 0
IsReady t ids (Input k) = Unit {0}
IsReady t ids (Constant width value) = IsConstant width value
IsReady t ids (Add a b) = AreReadyTerms t ids a b
IsReady t ids (Sub a b) = AreReadyTerms t ids a b
IsReady t ids (Slt a b) = AreReadyTerms t ids a b
IsReady t ids (Sle a b) = AreReadyTerms t ids a b
IsReady t ids (Ult a b) = AreReadyTerms t ids a b
IsReady t ids (Eq a b) = AreReadyTerms t ids a b
IsReady t ids (And a b) = AreReadyTerms t ids a b
IsReady t ids (Or a b) = AreReadyTerms t ids a b
IsReady t ids (Concat a b) = AreReadyParts t ids a b
IsReady t ids (Neg a) = IsReadyTerm t ids a
IsReady t ids (Not a) = IsReadyTerm t ids a
IsReady t ids (MulConst a coeff) = IsReadyTerm t ids a
IsReady t ids (Sext a width) = IsReadyExtension t ids a width
IsReady t ids (Extract a high low) = IsReadyExtract t ids a high low
IsReady t ids (Ite c a b) = IsReadyChoice t ids c a b
