-- What a goal is rewritten to: its inputs first, and then one pass over its nodes, with one rule a
-- kind of node over the terms that the nodes before it became.
use Rattle.std.specs.Prelude.{ℕ, ◌+◌, ◌-◌, List, [], ◌∷◌, ◌++◌, slice_index_or, ℤ}
use Rattle.std.specs.Prelude.{Option, Some, None}
use Rattle.dsv_term.specs.declared.node.TermId.{TermId}
use Rattle.dsv_term.specs.declared.node.TermNode.{TermNode}
use Rattle.dsv_term.specs.declared.node.TermNode.TheVariants.{Input, Constant, Add, Sub, Slt}
use Rattle.dsv_term.specs.declared.node.TermNode.TheVariants.{Sle, Ult, Eq, And, Or, Concat, Neg}
use Rattle.dsv_term.specs.declared.node.TermNode.TheVariants.{Not, MulConst, Sext, Extract, Ite}
use Rattle.dsv_term.specs.declared.word.Word.{Word}
use Rattle.dsv_term.specs.Building.{Built, built_of, with_node, with_new_input}
use Rattle.dsv_term.specs.Terms.{width_of}
use Rattle.dsv_term.specs.TermsView.{TermsView, no_terms}
use Rattle.dsv_term.specs.Word.{product_of}
use Rattle.dsv_rewrite.specs.Constants.{constant_at, constant_term}
use Rattle.dsv_rewrite.specs.Digits.{multiple_term}
use Rattle.dsv_rewrite.specs.Pairs.{sum_term, difference_term, negation_term, complement_term}
use Rattle.dsv_rewrite.specs.Pairs.{signed_less_term, signed_at_most_term, less_term, same_term}
use Rattle.dsv_rewrite.specs.Pairs.{and_term, or_term, joined_term, choice_term}
use Rattle.dsv_rewrite.specs.Parts.{part_term}

-- a product by a number: that of a constant, or a sum of shifted copies
abbrev pub product_by : TermsView → Option Word → ℤ → TermId → Built
product_by t (Some x) coeff a = constant_term t (product_of coeff x)
product_by t None coeff a = multiple_term t coeff a

-- a whole term, extended to a width
abbrev pub extension_term : TermsView → TermId → ℕ → Built
extension_term t a width =
    part_term t width (record { of = a; high = width_of t a - 1; low = 0 })

abbrev pub extract_term : TermsView → TermId → ℕ → ℕ → Built
extract_term t a high low =
    part_term t (high + 1 - low) (record { of = a; high = high; low = low })

-- the term that an earlier node became
abbrev pub term_of : List TermId → TermId → TermId
term_of ids a = slice_index_or ids a.0 (record { 0 = 0 })

-- The term that a node becomes. The term of input k is the k-th.
abbrev pub rewritten : TermsView → List TermId → TermNode → Built
rewritten t ids (Input k) = built_of t (record { 0 = k })
rewritten t ids (Constant width value) = with_node t (Constant width value)
rewritten t ids (Add a b) = sum_term t (term_of ids a) (term_of ids b)
rewritten t ids (Sub a b) = difference_term t (term_of ids a) (term_of ids b)
rewritten t ids (Slt a b) = signed_less_term t (term_of ids a) (term_of ids b)
rewritten t ids (Sle a b) = signed_at_most_term t (term_of ids a) (term_of ids b)
rewritten t ids (Ult a b) = less_term t (term_of ids a) (term_of ids b)
rewritten t ids (Eq a b) = same_term t (term_of ids a) (term_of ids b)
rewritten t ids (And a b) = and_term t (term_of ids a) (term_of ids b)
rewritten t ids (Or a b) = or_term t (term_of ids a) (term_of ids b)
rewritten t ids (Concat a b) = joined_term t (term_of ids a) (term_of ids b)
rewritten t ids (Neg a) = negation_term t (term_of ids a)
rewritten t ids (Not a) = complement_term t (term_of ids a)
rewritten t ids (MulConst a coeff) =
    product_by t (constant_at t (term_of ids a)) coeff (term_of ids a)
rewritten t ids (Sext a width) = extension_term t (term_of ids a) width
rewritten t ids (Extract a high low) = extract_term t (term_of ids a) high low
rewritten t ids (Ite c a b) = choice_term t (term_of ids c) (term_of ids a) (term_of ids b)

-- terms, and those that the nodes so far became
pub record Rewritten : Type 0 where
  pub terms : TermsView
  pub ids : List TermId

-- the nodes that are left
abbrev pub rewritten_from : List TermNode → Rewritten → Rewritten
rewritten_from [] r = r
rewritten_from (node ∷ nodes) r =
    let made = rewritten r.terms r.ids node in
    rewritten_from nodes (record { terms = made.terms; ids = r.ids ++ made.id ∷ [] })

-- inputs of these widths after those that stand
abbrev pub inputs_from : List ℕ → TermsView → TermsView
inputs_from [] t = t
inputs_from (width ∷ widths) t = inputs_from widths (with_new_input t width).terms

-- the goal of these terms and this root, rewritten
unfoldable pub simple_of : TermsView → TermId → Built
simple_of t root =
    let r = rewritten_from t.nodes (record { terms = inputs_from t.inputs no_terms; ids = [] }) in
    built_of r.terms (term_of r.ids root)
