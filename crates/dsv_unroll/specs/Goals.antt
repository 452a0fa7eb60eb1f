-- The terms of runs, sample after sample, and the goals over them.
use Rattle.std.specs.Prelude.{ℕ, zero, suc, ◌-◌, ◌*◌, ◌^◌, max, nat_lt}
use Rattle.std.specs.Prelude.{if◌then◌else◌, List, [], ◌∷◌, ◌++◌, length, map, replicate}
use Rattle.std.specs.Prelude.{Option, ℤ, pos, negsuc, int_lt}
use Rattle.dsv_word.specs.Words.{width, lo, hi}
use Rattle.dsv_netlist.specs.declared.node.Node.{Node}
use Rattle.dsv_netlist.specs.Nodes.{Net}
use Rattle.dsv_netlist.specs.Counts.{counts_of}
use Rattle.dsv_linear.specs.declared.fact.Fact.{Fact}
use Rattle.dsv_linear.specs.Known.{facts_of}
use Rattle.dsv_term.specs.declared.node.TermId.{TermId}
use Rattle.dsv_term.specs.declared.node.TermNode.TheVariants.{Constant, Sle, And, Extract}
use Rattle.dsv_term.specs.Building.{Built, built_of, with_node, with_new_input}
use Rattle.dsv_term.specs.TermsView.{TermsView, no_terms}
use Rattle.dsv_term.specs.Word.{residue}
use Rattle.dsv_unroll.specs.declared.fitting.TestedTerm.{TestedTerm}
use Rattle.dsv_unroll.specs.declared.rules.FitRule.{FitRule}
use Rattle.dsv_unroll.specs.declared.rules.FitRule.TheVariants.{Tested}
use Rattle.dsv_unroll.specs.FactTests.{facts_from, is_long}
use Rattle.dsv_unroll.specs.Rules.{width_for, node_term, node_tests, term_at}

-- the greatest job that is unrolled
abbrev pub most_size : ℕ
most_size = 250000

-- how great a job is that unrolls so many samples
abbrev pub size_of : Net → ℕ → ℕ
size_of net samples = samples * (counts_of net).products * width net.format ^ 2

-- ---- samples
-- a sample so far: terms, those of its nodes, and the one that is 1 where a value so far was no
-- word
pub record SampleTerms : Type 0 where
  pub terms : TermsView
  pub ids : List TermId
  pub overflowed : TermId

abbrev pub with_node_term : FitRule → Net → List TermId → TermId → SampleTerms → Node
    → SampleTerms
with_node_term rule net registers x s node =
    let u = node_term rule net registers x s.terms s.ids s.overflowed node in
    record { terms = u.terms; ids = s.ids ++ u.id ∷ []; overflowed = u.overflowed }

abbrev pub nodes_from : FitRule → Net → List TermId → TermId → List Node → SampleTerms
    → SampleTerms
nodes_from rule net registers x [] s = s
nodes_from rule net registers x (node ∷ nodes) s =
    nodes_from rule net registers x nodes (with_node_term rule net registers x s node)

-- the terms of one sample
unfoldable pub sample_terms : FitRule → Net → List TermId → TermId → TermsView → TermId
    → SampleTerms
sample_terms rule net registers x t overflowed =
    nodes_from rule net registers x net.nodes
    (record { terms = t; ids = []; overflowed = overflowed })

-- the tests of the values that these nodes fit
abbrev pub tests_from : FitRule → Net → List TermId → TermId → List Node → SampleTerms
    → List (Option TestedTerm)
tests_from rule net registers x [] s = []
tests_from rule net registers x (node ∷ nodes) s =
    node_tests rule net.format s.terms s.ids node
    ++ tests_from rule net registers x nodes (with_node_term rule net registers x s node)

-- the tests of one sample, in the order of its exact values
unfoldable pub sample_tests : FitRule → Net → List TermId → TermId → TermsView → TermId
    → List (Option TestedTerm)
sample_tests rule net registers x t overflowed =
    tests_from rule net registers x net.nodes
    (record { terms = t; ids = []; overflowed = overflowed })

-- a run so far: terms, those of the registers, and the one that is 1 where a value was no word
pub record RunTerms : Type 0 where
  pub terms : TermsView
  pub registers : List TermId
  pub overflowed : TermId

-- one sample more; the registers are loaded from their nodes
abbrev pub with_sample : Net → RunTerms → TermId → RunTerms
with_sample net r x =
    let s = sample_terms Tested net r.registers x r.terms r.overflowed in
    record { terms = s.terms; registers = map (term_at s.ids) net.next; overflowed = s.overflowed }

abbrev pub run_from : Net → List TermId → RunTerms → RunTerms
run_from net [] r = r
run_from net (x ∷ xs) r = run_from net xs (with_sample net r x)

-- the tests of a run, in the order of its exact values
abbrev pub run_tests : Net → List TermId → RunTerms → List (Option TestedTerm)
run_tests net [] r = []
run_tests net (x ∷ xs) r =
    sample_tests Tested net r.registers x r.terms r.overflowed
    ++ run_tests net xs (with_sample net r x)

-- ---- inputs
-- terms, and the tests so far, each of one bit
pub record TestTerms : Type 0 where
  pub terms : TermsView
  pub tests : List TermId

-- an end of the range is tested where it excludes a word
abbrev pub with_low_test : TermsView → ℕ → ℤ → TermId → List TermId → TestTerms
with_low_test t n low x tests =
    if int_lt (lo n) low then (let least = with_node t (Constant n (residue n low)) in
    let test = with_node least.terms (Sle least.id x) in
    record { terms = test.terms; tests = tests ++ test.id ∷ [] })
    else record { terms = t; tests = tests }

abbrev pub with_high_test : TermsView → ℕ → ℤ → TermId → List TermId → TestTerms
with_high_test t n high x tests =
    if int_lt high (hi n) then (let greatest = with_node t (Constant n (residue n high)) in
    let test = with_node greatest.terms (Sle x greatest.id) in
    record { terms = test.terms; tests = tests ++ test.id ∷ [] })
    else record { terms = t; tests = tests }

-- a number, or its complement where it is negative: both take as many bits in two's complement
abbrev pub magnitude : ℤ → ℕ
magnitude (pos m) = m
magnitude (negsuc m) = m

-- the least width in which all numbers from one end to the other are spelled
abbrev pub range_width : ℤ → ℤ → ℕ
range_width low high = width_for (max (magnitude low) (magnitude high))

-- The term of an input's value, where the value is in range: as many of its low bits as spell the
-- range, where a word has more, and the constant of a range of one number.
abbrev pub value_term : TermsView → ℕ → ℤ → ℤ → TermId → Built
value_term t n low high x =
    let bits = range_width low high in
    if int_lt low high
    then (if nat_lt bits n then with_node t (Extract x (bits - 1) 0) else built_of t x)
    else with_node t (Constant bits (residue bits low))

-- the terms of the values of the inputs so far, and the tests that these are in range
pub record InputTerms : Type 0 where
  pub terms : TermsView
  pub ids : List TermId
  pub tests : List TermId

abbrev pub with_input : ℕ → ℤ → ℤ → InputTerms → InputTerms
with_input n low high s =
    let x = with_new_input s.terms n in
    let a = with_low_test x.terms n low x.id s.tests in
    let b = with_high_test a.terms n high x.id a.tests in
    let value = value_term b.terms n low high x.id in
    record { terms = value.terms; ids = s.ids ++ value.id ∷ []; tests = b.tests }

abbrev pub inputs_from : ℕ → ℤ → ℤ → ℕ → InputTerms → InputTerms
inputs_from n low high zero s = s
inputs_from n low high (suc k) s = inputs_from n low high k (with_input n low high s)

-- ---- goals
-- a bit and these
abbrev pub conjunction_from : Built → List TermId → Built
conjunction_from b [] = b
conjunction_from b (test ∷ tests) = conjunction_from (with_node b.terms (And b.id test)) tests

-- so many inputs after these terms, and the tests that they are in range
abbrev pub first_inputs : Net → TermsView → ℤ → ℤ → ℕ → InputTerms
first_inputs net t low high samples =
    inputs_from (width net.format) low high samples (record { terms = t; ids = []; tests = [] })

-- Before the first sample, after the terms of the inputs: a zero in one bit, which all registers
-- hold, and which says that no value was outside so far.
abbrev pub zero_start : Net → TermsView → RunTerms
zero_start net t =
    let zero_bit = with_node t (Constant 1 0) in
    record {
      terms = zero_bit.terms;
      registers = replicate (length net.next) zero_bit.id;
      overflowed = zero_bit.id;
    }

-- the run over these inputs from registers of zeros
abbrev pub zero_run : Net → InputTerms → RunTerms
zero_run net inputs = run_from net inputs.ids (zero_start net inputs.terms)

-- The goal of an overflow without facts: inputs of as many bits as words have, the run, and the
-- root, which is 1 where a value was no word and all inputs are in range.
unfoldable pub plain_overflow_of : Net → ℤ → ℤ → ℕ → Built
plain_overflow_of net low high samples =
    let inputs = first_inputs net no_terms low high samples in
    let run = zero_run net inputs in
    conjunction_from (built_of run.terms run.overflowed) inputs.tests

-- The goal of an overflow where these are the facts: the same inputs and run, and the root, which
-- is 1 where a value was no word, all inputs are in range and the tests of the facts hold.
abbrev pub overflow_with : Net → ℤ → ℤ → ℕ → List Fact → Built
overflow_with net low high samples facts =
    let inputs = first_inputs net no_terms low high samples in
    let start = zero_start net inputs.terms in
    let run = zero_run net inputs in
    let known = facts_from (is_long samples) (record {
      terms = run.terms;
      overflowed = start.overflowed;
      tests = inputs.tests;
    }) facts (run_tests net inputs.ids start) in
    conjunction_from (built_of known.terms run.overflowed) known.tests

-- the goal of an overflow, with what is known of the run's values
unfoldable pub overflow_of : Net → ℤ → ℤ → ℕ → Built
overflow_of net low high samples =
    overflow_with net low high samples (facts_of net low high samples)
