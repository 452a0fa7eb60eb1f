-- The goals of a candidate set: each is 1 where one of its sentences is broken.
use Rattle.std.specs.Prelude.{ℕ, ◌+◌, ◌-◌, ◌*◌, ◌^◌, ◌==◌, max, if◌then◌else◌}
use Rattle.std.specs.Prelude.{List, [], ◌∷◌, ◌++◌, length, map, replicate, take, ℤ}
use Rattle.std.specs.Int.RustNames.{unsigned_abs}
use Rattle.dsv_word.specs.Words.{width}
use Rattle.dsv_netlist.specs.Nodes.{Net}
use Rattle.dsv_template.specs.declared.candidate.Candidate.{Candidate}
use Rattle.dsv_template.specs.declared.candidate.Inequality.{Inequality}
use Rattle.dsv_template.specs.declared.verdict.SetPart.{SetPart}
use Rattle.dsv_template.specs.declared.verdict.SetPart.TheVariants as set_part
use Rattle.dsv_term.specs.declared.node.TermId.{TermId}
use Rattle.dsv_term.specs.declared.node.TermNode.TheVariants.{Constant, Sle, And, Not}
use Rattle.dsv_term.specs.Building.{Built, with_node}
use Rattle.dsv_term.specs.Terms.{width_of}
use Rattle.dsv_term.specs.TermsView.{TermsView, no_terms}
use Rattle.dsv_term.specs.Word.{residue}
use Rattle.dsv_unroll.specs.declared.rules.FitRule.TheVariants.{Faithful}
use Rattle.dsv_unroll.specs.Rules.{width_for, widened_term, product_term, sum_term, term_at}
use Rattle.dsv_unroll.specs.Goals.{sample_terms, run_from, inputs_from, conjunction_from}
use Rattle.dsv_unroll.specs.CycleGoals.{StartTerms, starts_from}

-- ---- a set
-- the greatest size of a coefficient times a word of n bits
abbrev pub entry_bound : ℕ → ℤ → ℕ
entry_bound n coefficient = unsigned_abs coefficient * 2 ^ (n - 1)

-- terms, that of a sum, and the greatest size of its value
pub record SumTerms : Type 0 where
  pub terms : TermsView
  pub id : TermId
  pub bound : ℕ

-- a register times its coefficient more; nothing where that is 0
abbrev pub with_entry : ℕ → SumTerms → ℤ → TermId → SumTerms
with_entry n s coefficient register =
    if unsigned_abs coefficient == 0 then s
    else let entry = product_term s.terms (entry_bound n coefficient) coefficient register in
    let bound = s.bound + entry_bound n coefficient in
    let sum = sum_term entry.terms bound s.id entry.id in
    record { terms = sum.terms; id = sum.id; bound = bound }

abbrev pub combination_from : ℕ → SumTerms → List ℤ → List TermId → SumTerms
combination_from n s [] registers = s
combination_from n s (c ∷ cs) [] = s
combination_from n s (c ∷ cs) (r ∷ rs) = combination_from n (with_entry n s c r) cs rs

-- whether a number is at most a bound
abbrev pub at_most_term : TermsView → TermId → ℤ → Built
at_most_term t id bound =
    let bits = max (width_of t id) (width_for (unsigned_abs bound)) in
    let a = widened_term t id bits in
    let most = with_node a.terms (Constant bits (residue bits bound)) in
    with_node most.terms (Sle a.id most.id)

-- whether the registers fulfil an inequality, where zero_bit is a zero
abbrev pub inequality_term : ℕ → TermId → List TermId → TermsView → Inequality → Built
inequality_term n zero_bit registers t i =
    let sum = combination_from n (record { terms = t; id = zero_bit; bound = 0 })
    i.coefficients.items registers in
    at_most_term sum.terms sum.id i.bound

-- terms, and the tests so far
pub record Tests : Type 0 where
  pub terms : TermsView
  pub ids : List TermId

-- one test for each inequality
abbrev pub inequalities_from : ℕ → TermId → List TermId → Tests → List Inequality → Tests
inequalities_from n zero_bit registers s [] = s
inequalities_from n zero_bit registers s (i ∷ is) =
    let test = inequality_term n zero_bit registers s.terms i in
    inequalities_from n zero_bit registers
    (record { terms = test.terms; ids = s.ids ++ test.id ∷ [] }) is

-- whether the registers are in the set
unfoldable pub set_term : ℕ → TermId → TermsView → Candidate → List TermId → Built
set_term n zero_bit t candidate registers =
    let tests = inequalities_from n zero_bit registers (record { terms = t; ids = [] })
    candidate.inequalities.items in
    let whole = with_node tests.terms (Constant 1 1) in
    conjunction_from whole tests.ids

-- ---- states
-- a run so far: terms, those of the registers, and for each state so far whether it is in the set
pub record StateTerms : Type 0 where
  pub terms : TermsView
  pub registers : List TermId
  pub inside : List TermId

abbrev pub with_state : Net → TermId → Candidate → StateTerms → StateTerms
with_state net zero_bit candidate s =
    let here = set_term (width net.format) zero_bit s.terms candidate s.registers in
    record { terms = here.terms; registers = s.registers; inside = s.inside ++ here.id ∷ [] }

-- the words that the run computes, whatever breaks
abbrev pub with_next : Net → TermId → TermId → StateTerms → StateTerms
with_next net zero_bit x s =
    let sample = sample_terms Faithful net s.registers x s.terms zero_bit in
    record {
      terms = sample.terms;
      registers = map (term_at sample.ids) net.next;
      inside = s.inside;
    }

-- the states before these inputs, between them, and after the last
abbrev pub states_from : Net → TermId → Candidate → StateTerms → List TermId → StateTerms
states_from net zero_bit candidate s [] = with_state net zero_bit candidate s
states_from net zero_bit candidate s (x ∷ xs) =
    let next = with_next net zero_bit x (with_state net zero_bit candidate s) in
    states_from net zero_bit candidate next xs

-- ---- goals
-- what a goal begins with: terms, a zero in one bit, the terms of the registers and of the inputs,
-- and the tests that the inputs are in range
pub record SetStart : Type 0 where
  pub terms : TermsView
  pub zero_bit : TermId
  pub registers : List TermId
  pub inputs : List TermId
  pub tests : List TermId

-- the terms that the registers start with: zeros for the base, and else an input each
abbrev pub registers_of : Net → TermsView → TermId → SetPart → StartTerms
registers_of net t zero_bit set_part.Base =
    record { terms = t; ids = replicate (length net.next) zero_bit }
registers_of net t zero_bit set_part.Step =
    starts_from (width net.format) (length net.next) (record { terms = t; ids = [] })
registers_of net t zero_bit set_part.Safe =
    starts_from (width net.format) (length net.next) (record { terms = t; ids = [] })

-- what a goal over so many inputs begins with, after the inputs of the registers
abbrev pub set_start : Net → ℤ → ℤ → ℕ → SetPart → SetStart
set_start net low high samples part =
    let zero_bit = with_node no_terms (Constant 1 0) in
    let registers = registers_of net zero_bit.terms zero_bit.id part in
    let inputs = inputs_from (width net.format) low high samples
    (record { terms = registers.terms; ids = []; tests = [] }) in
    record {
      terms = inputs.terms;
      zero_bit = zero_bit.id;
      registers = registers.ids;
      inputs = inputs.ids;
      tests = inputs.tests;
    }

-- the states of a start, over all its inputs
abbrev pub states_of : Net → Candidate → SetStart → StateTerms
states_of net candidate s = states_from net s.zero_bit candidate
    (record { terms = s.terms; registers = s.registers; inside = [] }) s.inputs

-- some state isn't in the set
abbrev pub base_break : Net → Candidate → SetStart → Built
base_break net candidate s =
    let states = states_of net candidate s in
    let whole = with_node states.terms (Constant 1 1) in
    let all = conjunction_from whole states.inside in
    with_node all.terms (Not all.id)

-- the states before the last are in the set, and the last isn't
abbrev pub step_break : Net → Candidate → SetStart → Built
step_break net candidate s =
    let states = states_of net candidate s in
    let left = with_node states.terms (Not (term_at states.inside candidate.depth)) in
    conjunction_from left (take candidate.depth states.inside)

-- the start is in the set, and an exact value of its sample is no word
abbrev pub safe_break : Net → Candidate → SetStart → Built
safe_break net candidate s =
    let inside = set_term (width net.format) s.zero_bit s.terms candidate s.registers in
    let run = run_from net s.inputs
    (record { terms = inside.terms; registers = s.registers; overflowed = s.zero_bit }) in
    with_node run.terms (And run.overflowed inside.id)

-- a sentence is broken, where the inputs are in range
abbrev pub break_of : Net → Candidate → SetPart → SetStart → Built
break_of net candidate set_part.Base s = base_break net candidate s
break_of net candidate set_part.Step s = step_break net candidate s
break_of net candidate set_part.Safe s = safe_break net candidate s

-- how many inputs a sentence is over
abbrev pub samples_of : Candidate → SetPart → ℕ
samples_of candidate set_part.Base = candidate.depth - 1
samples_of candidate set_part.Step = candidate.depth
samples_of candidate set_part.Safe = 1

-- how many inputs the goal has: none for the registers of the base, which are zeros
abbrev pub set_inputs : Net → Candidate → SetPart → ℕ
set_inputs net candidate set_part.Base = samples_of candidate set_part.Base
set_inputs net candidate set_part.Step = length net.next + samples_of candidate set_part.Step
set_inputs net candidate set_part.Safe = length net.next + samples_of candidate set_part.Safe

-- The goal that a sentence is broken. Its inputs are x(0) to x(m-2) for the base, where m is the
-- depth, from registers of zeros; the words of the registers, and then m inputs, for the step; and
-- the words of the registers, and then one input, for the safe sentence.
unfoldable pub set_of : Net → ℤ → ℤ → Candidate → SetPart → Built
set_of net low high candidate part =
    let s = set_start net low high (samples_of candidate part) part in
    conjunction_from (break_of net candidate part s) s.tests
