-- What code makes node after node is what a definition builds.
use Rattle.std.proofs.Common.{◌≡◌, ◌∙◌, ℕ, ◌-◌, ap}
use Rattle.std.proofs.Math.IntN.{ℤ}
use Rattle.dsv_term.specs.declared.node.TermId.{TermId}
use Rattle.dsv_term.specs.declared.node.TermNode.TheVariants.{Constant, Slt, Sle, Eq, And, Not, Sext, Extract}
use Rattle.dsv_term.specs.Building.{Built, built_of, with_node}
use Rattle.dsv_term.specs.Terms.{width_of}
use Rattle.dsv_term.specs.TermsView.{TermsView}
use Rattle.dsv_term.specs.Word.{residue}
use Rattle.dsv_unroll.specs.FactTests.{within_test}
use Rattle.dsv_unroll.specs.Rules.{EndTerms, end_terms, CutTerms, cut_terms}

-- ---- the rest of a test that a value lies from one number to another, after so much of it
abbrev after_below : TermId → Built → Built
after_below above below = with_node below.terms (And above below.id)

abbrev after_above : TermId → TermId → Built → Built
after_above value greatest above = after_below above.id (with_node above.terms (Sle value greatest))

abbrev after_greatest : TermId → TermId → Built → Built
after_greatest value least greatest = after_above value greatest.id (with_node greatest.terms (Sle least value))

abbrev after_least : ℕ → ℕ → TermId → Built → Built
after_least bits n value least = after_greatest value least.id (with_node least.terms (Constant bits n))

pub within_made : (t u v w x : TermsView) (bits m n : ℕ) (low high : ℤ) (value least greatest above below : TermId) → bits ≡ width_of t value → m ≡ residue bits low → n ≡ residue bits high
    → built_of u least ≡ with_node t (Constant bits m) → built_of v greatest ≡ with_node u (Constant bits n) → built_of w above ≡ with_node v (Sle least value) → built_of x below ≡ with_node w (Sle value greatest)
    → with_node x (And above below) ≡ within_test t low high value
within_made t u v w x bits m n low high value least greatest above below b p q d e f g =
    ap (after_below above) g ∙ (ap (after_above value greatest) f ∙ (ap (after_greatest value least) e ∙ (ap (after_least bits n value) d
    ∙ (ap (λ (k : ℕ). after_least bits n value (with_node t (Constant bits k))) p ∙ (ap (λ (k : ℕ). after_least bits k value (with_node t (Constant bits (residue bits low)))) q
    ∙ ap (λ (k : ℕ). after_least k (residue k high) value (with_node t (Constant k (residue k low)))) b)))))

-- ---- the rest of two numbers and where a term lies beside them
abbrev pub ends_of : TermsView → TermId → TermId → TermId → TermId → EndTerms
ends_of t least greatest below above = record { terms = t; least = least; greatest = greatest; below = below; above = above }

abbrev ends_above : TermId → TermId → TermId → Built → EndTerms
ends_above least greatest below above = ends_of above.terms least greatest below above.id

abbrev ends_below : TermId → TermId → TermId → Built → EndTerms
ends_below of least greatest below = ends_above least greatest below.id (with_node below.terms (Slt greatest of))

abbrev ends_greatest : TermId → TermId → Built → EndTerms
ends_greatest of least greatest = ends_below of least greatest.id (with_node greatest.terms (Slt of least))

abbrev ends_least : ℕ → ℕ → TermId → Built → EndTerms
ends_least bits high of least = ends_greatest of least.id (with_node least.terms (Constant bits high))

pub ends_made : (t u v w x : TermsView) (bits low high : ℕ) (of least greatest below above : TermId) → built_of u least ≡ with_node t (Constant bits low) → built_of v greatest ≡ with_node u (Constant bits high)
    → built_of w below ≡ with_node v (Slt of least) → built_of x above ≡ with_node w (Slt greatest of) → ends_of x least greatest below above ≡ end_terms t bits low high of
ends_made t u v w x bits low high of least greatest below above d e f g =
    ap (ends_above least greatest below) g ∙ (ap (ends_below of least greatest) f ∙ (ap (ends_greatest of least) e ∙ ap (ends_least bits high of) d))

-- ---- the rest of the test of a value that is cut
abbrev cut_other : TermId → TermId → TermId → Built → CutTerms
cut_other of word same other = record { terms = other.terms; word = word; tested = record { value = of; is_word = same; outside = other.id } }

abbrev cut_same : TermId → TermId → Built → CutTerms
cut_same of word same = cut_other of word same.id (with_node same.terms (Not same.id))

abbrev cut_back : TermId → TermId → Built → CutTerms
cut_back of word back = cut_same of word (with_node back.terms (Eq back.id of))

abbrev cut_word : ℕ → TermId → Built → CutTerms
cut_word width of word = cut_back of word.id (with_node word.terms (Sext word.id width))

pub cut_made : (t u v w x : TermsView) (n width : ℕ) (of word back same other : TermId) → width ≡ width_of t of → built_of u word ≡ with_node t (Extract of (n - 1) 0) → built_of v back ≡ with_node u (Sext word width)
    → built_of w same ≡ with_node v (Eq back of) → built_of x other ≡ with_node w (Not same) → cut_other of word same (built_of x other) ≡ cut_terms t n of
cut_made t u v w x n width of word back same other b d e f g =
    ap (cut_other of word same) g ∙ (ap (cut_same of word) f ∙ (ap (cut_back of word) e ∙ (ap (cut_word width of) d
    ∙ ap (λ (k : ℕ). cut_word k of (with_node t (Extract of (n - 1) 0))) b)))
