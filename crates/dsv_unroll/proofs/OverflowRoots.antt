-- The start and the root of the goal of an overflow.
use Rattle.std.proofs.Common.{◌≡◌, ◌∙◌, ℕ, Bool, List, Option, ap, length, replicate, refl}
use Rattle.std.specs.Prelude.{◌≤ℤ◌}
use Rattle.std.proofs.Math.IntN.{ℤ}
use Rattle.dsv_word.specs.Words.{width, lo, hi}
use Rattle.dsv_linear.specs.declared.fact.Fact.{Fact}
use Rattle.dsv_netlist.specs.Nodes.{Net}
use Rattle.dsv_term.specs.declared.node.TermId.{TermId}
use Rattle.dsv_term.specs.declared.node.TermNode.TheVariants.{Constant}
use Rattle.dsv_term.specs.Building.{Built, built_of, with_node}
use Rattle.dsv_term.specs.TermsView.{TermsView, no_terms}
use Rattle.dsv_unroll.specs.declared.fitting.TestedTerm.{TestedTerm}
use Rattle.dsv_unroll.specs.FactTests.{FactTerms, facts_from, is_long}
use Rattle.dsv_unroll.specs.Goals.{RunTerms, run_from, run_tests, conjunction_from, first_inputs, overflow_with}
use Rattle.dsv_unroll.proofs.Breaking.{AreStarted, started_from}

pub zero_started : (net : Net) (low high : ℤ) (samples : ℕ) (none t : TermsView) (zero_bit : TermId) (registers : List TermId) → none ≡ no_terms → low ≤ℤ hi (width net.format) → lo (width net.format) ≤ℤ high
    → built_of t zero_bit ≡ with_node (first_inputs net none low high samples).terms (Constant 1 0) → registers ≡ replicate (length net.next) zero_bit → AreStarted net registers (first_inputs net none low high samples) t zero_bit
zero_started net low high samples none t zero_bit registers z l h b r =
    started_from net low high samples (length net.next) net.format none registers (first_inputs net none low high samples) t zero_bit l h refl z refl b r refl

-- ---- the root, from parts of the goal on
abbrev known_from : Bool → List Fact → List TermId → TermId → RunTerms → List (Option TestedTerm) → Built
known_from long facts tests zero_bit run tested =
    let known = facts_from long (record { terms = run.terms; overflowed = zero_bit; tests = tests }) facts tested in
    conjunction_from (built_of known.terms run.overflowed) known.tests

abbrev root_from : Bool → Net → List Fact → List TermId → List TermId → List TermId → Built → Built
root_from long net facts ids tests registers zero_bit =
    let start : RunTerms = record { terms = zero_bit.terms; registers = registers; overflowed = zero_bit.id } in
    known_from long facts tests zero_bit.id (run_from net ids start) (run_tests net ids start)

abbrev goal_from : Net → ℤ → ℤ → ℕ → List Fact → TermsView → Built
goal_from net low high samples facts none =
    let first = first_inputs net none low high samples in
    let zero_bit = with_node first.terms (Constant 1 0) in
    root_from (is_long samples) net facts first.ids first.tests (replicate (length net.next) zero_bit.id) zero_bit

pub root_made : (net : Net) (low high : ℤ) (samples : ℕ) (facts : List Fact) (none : TermsView) (ids tests registers : List TermId) (t : TermsView) (zero_bit : TermId) (run : RunTerms) (tested : List (Option TestedTerm)) (u : TermsView) (made : List TermId)
    → none ≡ no_terms → built_of t zero_bit ≡ with_node (first_inputs net none low high samples).terms (Constant 1 0) → ids ≡ (first_inputs net none low high samples).ids → tests ≡ (first_inputs net none low high samples).tests
    → registers ≡ replicate (length net.next) zero_bit → run ≡ run_from net ids (record { terms = t; registers = registers; overflowed = zero_bit }) → tested ≡ run_tests net ids (record { terms = t; registers = registers; overflowed = zero_bit })
    → u ≡ (facts_from (is_long samples) (record { terms = run.terms; overflowed = zero_bit; tests = tests }) facts tested).terms → made ≡ (facts_from (is_long samples) (record { terms = run.terms; overflowed = zero_bit; tests = tests }) facts tested).tests
    → conjunction_from (built_of u run.overflowed) made ≡ overflow_with net low high samples facts
root_made net low high samples facts none ids tests registers t zero_bit run tested u made z b i k r e g p q =
    let first = first_inputs net none low high samples in
    let start : RunTerms = record { terms = t; registers = registers; overflowed = zero_bit } in
    let long = is_long samples in
    let known : FactTerms = facts_from long (record { terms = run.terms; overflowed = zero_bit; tests = tests }) facts tested in
    let one = ap (λ (v : TermsView). conjunction_from (built_of v run.overflowed) made) p ∙ ap (λ (ns : List TermId). conjunction_from (built_of known.terms run.overflowed) ns) q in
    let two = ap (λ (es : List (Option TestedTerm)). known_from long facts tests zero_bit run es) g ∙ ap (λ (v : RunTerms). known_from long facts tests zero_bit v (run_tests net ids start)) e in
    let three = ap (λ (ns : List TermId). root_from long net facts ids tests ns (built_of t zero_bit)) r ∙ ap (λ (ns : List TermId). root_from long net facts ns tests (replicate (length net.next) zero_bit) (built_of t zero_bit)) i in
    let four = ap (λ (ns : List TermId). root_from long net facts first.ids ns (replicate (length net.next) zero_bit) (built_of t zero_bit)) k
    ∙ ap (λ (v : Built). root_from long net facts first.ids first.tests (replicate (length net.next) v.id) v) b in
    one ∙ (two ∙ (three ∙ (four ∙ ap (goal_from net low high samples facts) z)))
