-- What rewriting leaves no more of: products by constants, and nodes over constants alone.
use Rattle.std.specs.Prelude.{◌≡◌, ◌⊎◌, ℕ, ◌<◌, length, slice_get, Some, None}
use Rattle.dsv_term.specs.declared.node.TermId.{TermId}
use Rattle.dsv_term.specs.declared.node.TermNode.{TermNode}
use Rattle.dsv_term.specs.declared.node.TermNode.TheVariants.{Input, Constant, Add, Sub, Slt}
use Rattle.dsv_term.specs.declared.node.TermNode.TheVariants.{Sle, Ult, Eq, And, Or, Concat, Neg}
use Rattle.dsv_term.specs.declared.node.TermNode.TheVariants.{Not, MulConst, Sext, Extract, Ite}
use Rattle.dsv_term.specs.TermsView.{TermsView}
use Rattle.dsv_rewrite.specs.Constants.{constant_at}

-- the term is no constant
abbrev pub IsOpen : TermsView → TermId → Type 0
IsOpen t a = constant_at t a ≡ None

abbrev pub OneIsOpen : TermsView → TermId → TermId → Type 0
OneIsOpen t a b = IsOpen t a ⊎ IsOpen t b

-- The node is no product by a constant, and if it is made of terms, not all are constants.
abbrev pub IsSimple : TermsView → TermNode → Type 0
IsSimple t (Input k) = Unit {0}
IsSimple t (Constant width value) = Unit {0}
IsSimple t (Add a b) = OneIsOpen t a b
IsSimple t (Sub a b) = OneIsOpen t a b
IsSimple t (Slt a b) = OneIsOpen t a b
IsSimple t (Sle a b) = OneIsOpen t a b
IsSimple t (Ult a b) = OneIsOpen t a b
IsSimple t (Eq a b) = OneIsOpen t a b
IsSimple t (And a b) = OneIsOpen t a b
IsSimple t (Or a b) = OneIsOpen t a b
IsSimple t (Concat a b) = OneIsOpen t a b
IsSimple t (Neg a) = IsOpen t a
IsSimple t (Not a) = IsOpen t a
IsSimple t (MulConst a coeff) = ⊥
IsSimple t (Sext a width) = IsOpen t a
IsSimple t (Extract a high low) = IsOpen t a
IsSimple t (Ite c a b) = IsOpen t c ⊎ OneIsOpen t a b

abbrev pub AreSimple : TermsView → Type 0
AreSimple t = (i : ℕ) (node : TermNode) → i < length t.nodes → slice_get t.nodes i ≡ Some node
    → IsSimple t node
