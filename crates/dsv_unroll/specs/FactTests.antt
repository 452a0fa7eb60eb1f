-- What the facts of a run's exact values add to the root of its overflow goal. Each test holds at
-- all inputs in range, so the root stays the same; it only makes the search for a break shorter.
use Rattle.std.specs.Prelude.{ℕ, nat_le, Bool, true, false, List, [], ◌∷◌, ◌++◌}
use Rattle.std.specs.Prelude.{Option, None, Some, ℤ}
use Rattle.dsv_linear.specs.declared.fact.Fact.{Fact}
use Rattle.dsv_linear.specs.declared.fact.Fact.TheVariants as fact
use Rattle.dsv_term.specs.declared.node.TermId.{TermId}
use Rattle.dsv_term.specs.declared.node.TermNode.TheVariants.{Constant, Sle, And, Or}
use Rattle.dsv_term.specs.Building.{Built, with_node}
use Rattle.dsv_term.specs.Terms.{width_of}
use Rattle.dsv_term.specs.TermsView.{TermsView}
use Rattle.dsv_term.specs.Word.{residue}
use Rattle.dsv_unroll.specs.declared.fitting.TestedTerm.{TestedTerm}

-- terms, the bit that is 1 where a value so far that may be no word was none, and the tests so far
pub record FactTerms : Type 0 where
  pub terms : TermsView
  pub overflowed : TermId
  pub tests : List TermId

-- the test that a value lies from one number to another
abbrev pub within_test : TermsView → ℤ → ℤ → TermId → Built
within_test t low high value =
    let bits = width_of t value in
    let least = with_node t (Constant bits (residue bits low)) in
    let greatest = with_node least.terms (Constant bits (residue bits high)) in
    let above = with_node greatest.terms (Sle least.id value) in
    let below = with_node above.terms (Sle value greatest.id) in
    with_node below.terms (And above.id below.id)

-- one test more, which holds unless a value before was no word
abbrev pub with_test : FactTerms → Built → FactTerms
with_test known test =
    let either = with_node test.terms (Or known.overflowed test.id) in
    record {
      terms = either.terms;
      overflowed = known.overflowed;
      tests = known.tests ++ either.id ∷ [];
    }

-- from so many samples on a goal is long
abbrev pub long_run : ℕ
long_run = 11

-- whether a goal over so many samples is long
abbrev pub is_long : ℕ → Bool
is_long samples = nat_le long_run samples

-- the test that a value is a word, where it is wanted
abbrev pub with_word : Bool → FactTerms → TestedTerm → FactTerms
with_word true known tested =
    with_test known (record { terms = known.terms; id = tested.is_word })
with_word false known tested = known

-- A value of which nothing is known may be outside. One that is a word passes the test of its word,
-- and one that lies between two ends that of these and, in a long goal, that of its word: then unit
-- steps alone refute a goal of whose values all are known to be words.
abbrev pub with_fact : Bool → FactTerms → Fact → TestedTerm → FactTerms
with_fact long known fact.Open tested =
    let either = with_node known.terms (Or known.overflowed tested.outside) in
    record { terms = either.terms; overflowed = either.id; tests = known.tests }
with_fact long known fact.Inside tested = with_word true known tested
with_fact long known (fact.Within low high) tested =
    with_word long (with_test known (within_test known.terms low high tested.value)) tested

-- the same, and nothing for a value that isn't tested
abbrev pub with_entry : Bool → FactTerms → Fact → Option TestedTerm → FactTerms
with_entry long known held None = known
with_entry long known held (Some tested) = with_fact long known held tested

-- value after value with its fact; nothing is known of those after the last fact
abbrev pub facts_from : Bool → FactTerms → List Fact → List (Option TestedTerm) → FactTerms
facts_from long known facts [] = known
facts_from long known [] (entry ∷ entries) =
    facts_from long (with_entry long known fact.Open entry) [] entries
facts_from long known (held ∷ facts) (entry ∷ entries) =
    facts_from long (with_entry long known held entry) facts entries
