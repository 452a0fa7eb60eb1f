-- How each node of a netlist becomes a term. A term has the least width that holds its node's
-- bound, or that of a wider operand.
use Rattle.std.specs.Prelude.{ℕ, ◌+◌, ◌-◌, ◌%◌, ◌^◌, ◌==◌}
use Rattle.std.specs.Prelude.{nat_lt, max, min, Bool, true, false}
use Rattle.std.specs.Prelude.{if◌then◌else◌, List, [], ◌∷◌, length, slice_index, slice_index_or}
use Rattle.std.specs.Prelude.{Option, None, Some, ℤ, pos}
use Rattle.std.specs.Int.Count.{count_leading_zeros}
use Rattle.std.specs.Int.RustNames.{unsigned_abs}
use Rattle.dsv_names.specs.declared.rounding.Rounding.{Rounding}
use Rattle.dsv_names.specs.declared.rounding.Rounding.TheVariants as rounding
use Rattle.dsv_names.specs.declared.overflow_mode.OverflowMode.{OverflowMode}
use Rattle.dsv_names.specs.declared.overflow_mode.OverflowMode.TheVariants as overflow_mode
use Rattle.dsv_word.specs.declared.format.Format.{Format}
use Rattle.dsv_word.specs.Words.{width, lo, hi}
use Rattle.dsv_netlist.specs.declared.node.Node.{Node}
use Rattle.dsv_netlist.specs.declared.node.Node.TheVariants as node
use Rattle.dsv_netlist.specs.Nodes.{Net}
use Rattle.dsv_netlist.specs.Bounds.{bounds_of}
use Rattle.dsv_term.specs.declared.node.TermId.{TermId}
use Rattle.dsv_term.specs.declared.node.TermNode.TheVariants.{Constant, Add, Sub, Slt, Eq, Or}
use Rattle.dsv_term.specs.declared.node.TermNode.TheVariants.{Not, MulConst, Sext, Extract, Ite}
use Rattle.dsv_term.specs.Building.{Built, built_of, with_node}
use Rattle.dsv_term.specs.Terms.{width_of}
use Rattle.dsv_term.specs.TermsView.{TermsView}
use Rattle.dsv_term.specs.Word.{residue}
use Rattle.dsv_unroll.specs.declared.fitting.TestedTerm.{TestedTerm}
use Rattle.dsv_unroll.specs.declared.rules.FitRule.{FitRule}
use Rattle.dsv_unroll.specs.declared.rules.FitRule.TheVariants as fit_rule

-- the least width in which all numbers of at most this size are spelled: one bit for the sign, and
-- the binary digits of the bound
abbrev pub width_for : ℕ → ℕ
width_for bound = 129 - count_leading_zeros 128 bound

-- the same number in so many bits
abbrev pub widened_term : TermsView → TermId → ℕ → Built
widened_term t id bits =
    if width_of t id == bits then built_of t id else with_node t (Sext id bits)

-- the width of a product by a constant: as many bits more than the term's as the constant has
-- always suffice
abbrev pub product_width : TermsView → ℕ → ℤ → TermId → ℕ
product_width t bound coeff of =
    let bits = width_of t of in
    max bits (min (bits + width_for (min (unsigned_abs coeff) bound) - 1) (width_for bound))

-- a product by a constant, where this is its bound
abbrev pub product_term : TermsView → ℕ → ℤ → TermId → Built
product_term t bound coeff of =
    let a = widened_term t of (product_width t bound coeff of) in
    with_node a.terms (MulConst a.id coeff)

-- the width of a term times 2^f: f bits more than the term's always suffice
abbrev pub scaled_width : TermsView → ℕ → ℕ → TermId → ℕ
scaled_width t bound f of =
    let bits = width_of t of in max bits (min (bits + f) (width_for bound))

-- a term times 2^f, where this is its bound
abbrev pub scaled_term : TermsView → ℕ → ℕ → TermId → Built
scaled_term t bound f of =
    let a = widened_term t of (scaled_width t bound f of) in
    with_node a.terms (MulConst a.id (pos (2 ^ f)))

-- the width of a sum or a difference of two terms: one bit more than theirs always suffices
abbrev pub sum_width : TermsView → ℕ → TermId → TermId → ℕ
sum_width t bound left right =
    let bits = max (width_of t left) (width_of t right) in
    max bits (min (bits + 1) (width_for bound))

abbrev pub sum_term : TermsView → ℕ → TermId → TermId → Built
sum_term t bound left right =
    let bits = sum_width t bound left right in
    let a = widened_term t left bits in
    let b = widened_term a.terms right bits in
    with_node b.terms (Add a.id b.id)

abbrev pub difference_term : TermsView → ℕ → TermId → TermId → Built
difference_term t bound left right =
    let bits = sum_width t bound left right in
    let a = widened_term t left bits in
    let b = widened_term a.terms right bits in
    with_node b.terms (Sub a.id b.id)

-- ---- rounding
-- what is added before the bits below the point are cut off
abbrev pub addend_of : Rounding → ℕ → ℕ
addend_of rounding.Floor f = 0
addend_of rounding.Ceil f = 2 ^ f - 1
addend_of rounding.Nearest f = 2 ^ (f - 1)

-- the node is a multiple of 2^f: a product by one, or a scaled node
abbrev pub is_whole : ℕ → Node → Bool
is_whole f node.Input = false
is_whole f (node.Reg register) = false
is_whole f (node.MulConst coeff of) = unsigned_abs coeff % 2 ^ f == 0
is_whole f (node.Round of) = false
is_whole f (node.Add left right) = false
is_whole f (node.Sub left right) = false
is_whole f (node.Fit of) = false
is_whole f (node.Scale of) = true

-- what is added to the node of this number: nothing to a multiple of 2^f
abbrev pub addend_at : Net → ℕ → ℕ
addend_at net of =
    if is_whole net.format.frac_bits (slice_index_or net.nodes of node.Input) then 0
    else addend_of net.format.rounding net.format.frac_bits

abbrev pub with_addend : TermsView → ℕ → ℕ → TermId → Built
with_addend t bits addend id =
    if addend == 0 then built_of t id
    else let c = with_node t (Constant bits addend) in with_node c.terms (Add id c.id)

-- the width of a term with an addend below 2^f: none more where nothing is added, and one more
-- always suffices
abbrev pub shift_width : TermsView → ℕ → ℕ → ℕ → TermId → ℕ
shift_width t bound addend f of =
    let bits = max (width_of t of) (f + 1) in
    if addend == 0 then bits else max bits (min (bits + 1) (width_for (bound + addend)))

-- the term with the addend, in bits from f up, where this is the bound of what is rounded
abbrev pub shifted_term : TermsView → ℕ → ℕ → ℕ → TermId → Built
shifted_term t bound addend f of =
    let bits = shift_width t bound addend f of in
    let a = widened_term t of bits in
    let b = with_addend a.terms bits addend a.id in
    with_node b.terms (Extract b.id (bits - 1) f)

abbrev pub rounded_term : TermsView → ℕ → ℕ → ℕ → TermId → Built
rounded_term t bound addend f of =
    if f == 0 then built_of t of else shifted_term t bound addend f of

-- ---- fitting
-- terms, that of a node, and the one that is 1 where a value so far was no word
pub record Unrolled : Type 0 where
  pub terms : TermsView
  pub id : TermId
  pub overflowed : TermId

abbrev pub unrolled_of : Built → TermId → Unrolled
unrolled_of b overflowed = record { terms = b.terms; id = b.id; overflowed = overflowed }

-- terms, the low bits of a term, and the test whether it is a word
pub record CutTerms : Type 0 where
  pub terms : TermsView
  pub word : TermId
  pub tested : TestedTerm

-- a wider term isn't a word where its low bits, extended again, aren't the same
abbrev pub cut_terms : TermsView → ℕ → TermId → CutTerms
cut_terms t n of =
    let word = with_node t (Extract of (n - 1) 0) in
    let back = with_node word.terms (Sext word.id (width_of t of)) in
    let same = with_node back.terms (Eq back.id of) in
    let other = with_node same.terms (Not same.id) in
    record {
      terms = other.terms;
      word = word.id;
      tested = record { value = of; is_word = same.id; outside = other.id };
    }

-- The low bits of a wider term. The word after a break doesn't matter: the bit is 1 from there on.
abbrev pub cut_term : TermsView → ℕ → TermId → TermId → Unrolled
cut_term t n of overflowed =
    let cut = cut_terms t n of in
    let either = with_node cut.terms (Or overflowed cut.tested.outside) in
    record { terms = either.terms; id = cut.word; overflowed = either.id }

-- two numbers of so many bits, and whether a term lies below the one or above the other
pub record EndTerms : Type 0 where
  pub terms : TermsView
  pub least : TermId
  pub greatest : TermId
  pub below : TermId
  pub above : TermId

abbrev pub end_terms : TermsView → ℕ → ℕ → ℕ → TermId → EndTerms
end_terms t bits low high of =
    let least = with_node t (Constant bits low) in
    let greatest = with_node least.terms (Constant bits high) in
    let below = with_node greatest.terms (Slt of least.id) in
    let above = with_node below.terms (Slt greatest.id of) in
    record {
      terms = above.terms;
      least = least.id;
      greatest = greatest.id;
      below = below.id;
      above = above.id;
    }

-- the end that a term lies after, or the term itself, cut to n bits
abbrev pub clamped_term : EndTerms → ℕ → TermId → Built
clamped_term ends n of =
    let upper = with_node ends.terms (Ite ends.above ends.greatest of) in
    let both = with_node upper.terms (Ite ends.below ends.least upper.id) in
    with_node both.terms (Extract both.id (n - 1) 0)

-- the word nearest to a wider term
abbrev pub saturated_term : TermsView → ℕ → TermId → Built
saturated_term t n of =
    let bits = width_of t of in
    clamped_term (end_terms t bits (residue bits (lo n)) (residue bits (hi n)) of) n of

abbrev pub word_term : OverflowMode → TermsView → ℕ → TermId → Built
word_term overflow_mode.Wrap t n of = with_node t (Extract of (n - 1) 0)
word_term overflow_mode.Saturate t n of = saturated_term t n of

-- A term of at most n bits is a word already. Up to the first break every word is the exact value,
-- so the search for a break tests it; a start may be any word, so the search for cycles fits it.
abbrev pub fitted_term : FitRule → Format → TermsView → TermId → TermId → Unrolled
fitted_term fit_rule.Tested format t of overflowed =
    if nat_lt (width format) (width_of t of) then cut_term t (width format) of overflowed
    else unrolled_of (built_of t of) overflowed
fitted_term fit_rule.Faithful format t of overflowed =
    if nat_lt (width format) (width_of t of)
    then unrolled_of (word_term format.overflow t (width format) of) overflowed
    else unrolled_of (built_of t of) overflowed

-- the test of a fitted value: none where a term is a word already, or where it isn't tested
abbrev pub tested_term : FitRule → Format → TermsView → TermId → Option TestedTerm
tested_term fit_rule.Tested format t of =
    if nat_lt (width format) (width_of t of)
    then (let cut = cut_terms t (width format) of in Some cut.tested) else None
tested_term fit_rule.Faithful format t of = None

-- ---- nodes
-- the term at a place
abbrev pub term_at : List TermId → ℕ → TermId
term_at ids i = slice_index_or ids i (record { 0 = 0 })

-- the bound of a node of this number
abbrev pub bound_at : Net → ℕ → ℕ
bound_at net i = slice_index (bounds_of net.format net.nodes) i

-- the term of a node after those of the earlier nodes, where these are the terms of the registers
-- and of the input
abbrev pub node_term : FitRule → Net → List TermId → TermId → TermsView → List TermId → TermId
    → Node → Unrolled
node_term rule net registers x t ids overflowed node.Input = unrolled_of (built_of t x) overflowed
node_term rule net registers x t ids overflowed (node.Reg k) =
    unrolled_of (built_of t (term_at registers k)) overflowed
node_term rule net registers x t ids overflowed (node.MulConst coeff of) =
    unrolled_of (product_term t (bound_at net (length ids)) coeff (term_at ids of)) overflowed
node_term rule net registers x t ids overflowed (node.Round of) =
    unrolled_of (rounded_term t (bound_at net of) (addend_at net of) net.format.frac_bits
    (term_at ids of)) overflowed
node_term rule net registers x t ids overflowed (node.Add left right) =
    unrolled_of (sum_term t (bound_at net (length ids)) (term_at ids left) (term_at ids right))
    overflowed
node_term rule net registers x t ids overflowed (node.Sub left right) =
    unrolled_of (difference_term t (bound_at net (length ids)) (term_at ids left)
    (term_at ids right)) overflowed
node_term rule net registers x t ids overflowed (node.Fit of) =
    fitted_term rule net.format t (term_at ids of) overflowed
node_term rule net registers x t ids overflowed (node.Scale of) =
    unrolled_of (scaled_term t (bound_at net (length ids)) net.format.frac_bits (term_at ids of))
    overflowed

-- the tests that a node adds: one where a value is fitted
abbrev pub node_tests : FitRule → Format → TermsView → List TermId → Node
    → List (Option TestedTerm)
node_tests rule format t ids node.Input = []
node_tests rule format t ids (node.Reg k) = []
node_tests rule format t ids (node.MulConst coeff of) = []
node_tests rule format t ids (node.Round of) = []
node_tests rule format t ids (node.Add left right) = []
node_tests rule format t ids (node.Sub left right) = []
node_tests rule format t ids (node.Fit of) = tested_term rule format t (term_at ids of) ∷ []
node_tests rule format t ids (node.Scale of) = []
