-- Which terms are constants.
use Rattle.std.specs.Prelude.{◌-◌, ◌^◌, ◌==◌, Bool, Option, Some, None, slice_index_or}
use Rattle.dsv_term.specs.declared.node.TermId.{TermId}
use Rattle.dsv_term.specs.declared.node.TermNode.{TermNode}
use Rattle.dsv_term.specs.declared.node.TermNode.TheVariants.{Input, Constant, Add, Sub, Slt}
use Rattle.dsv_term.specs.declared.node.TermNode.TheVariants.{Sle, Ult, Eq, And, Or, Concat, Neg}
use Rattle.dsv_term.specs.declared.node.TermNode.TheVariants.{Not, MulConst, Sext, Extract, Ite}
use Rattle.dsv_term.specs.declared.word.Word.{Word}
use Rattle.dsv_term.specs.Building.{Built, with_node}
use Rattle.dsv_term.specs.TermsView.{TermsView}

-- the node of a term
abbrev pub node_at : TermsView → TermId → TermNode
node_at t id = slice_index_or t.nodes id.0 (Input 0)

-- the word of a node that is a constant
abbrev pub constant_of : TermNode → Option Word
constant_of (Input k) = None
constant_of (Constant width value) = Some (record { width = width; number = value })
constant_of (Add a b) = None
constant_of (Sub a b) = None
constant_of (Slt a b) = None
constant_of (Sle a b) = None
constant_of (Ult a b) = None
constant_of (Eq a b) = None
constant_of (And a b) = None
constant_of (Or a b) = None
constant_of (Concat a b) = None
constant_of (Neg a) = None
constant_of (Not a) = None
constant_of (MulConst a coeff) = None
constant_of (Sext a width) = None
constant_of (Extract a high low) = None
constant_of (Ite c a b) = None

abbrev pub constant_at : TermsView → TermId → Option Word
constant_at t id = constant_of (node_at t id)

-- the term of a constant
abbrev pub constant_term : TermsView → Word → Built
constant_term t word = with_node t (Constant word.width word.number)

abbrev pub is_zero : Word → Bool
is_zero word = word.number == 0

-- all bits are 1
abbrev pub is_full : Word → Bool
is_full word = word.number == 2 ^ word.width - 1
