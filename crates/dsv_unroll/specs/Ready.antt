-- Serves private contracts: terms that are ready for the rules.
use Rattle.std.specs.Prelude.{◌≡◌, ℕ, ◌<◌, ◌≤◌, List, [], ◌∷◌, length, ℤ, ◌≤ℤ◌}
use Rattle.std.specs.Prelude.{Option, None, Some, Bool}
use Rattle.std.specs.List.{All}
use Rattle.dsv_word.specs.Words.{lo, hi}
use Rattle.dsv_netlist.specs.declared.node.Node.{Node}
use Rattle.dsv_netlist.specs.declared.node.Node.TheVariants as node
use Rattle.dsv_netlist.specs.Limits.{most_registers}
use Rattle.dsv_netlist.specs.Nodes.{Net}
use Rattle.dsv_term.specs.declared.node.TermId.{TermId}
use Rattle.dsv_term.specs.Growth.{AreSound}
use Rattle.dsv_term.specs.Terms.{width_of, word_of, HasBits}
use Rattle.dsv_term.specs.TermsView.{TermsView}
use Rattle.dsv_term.specs.Word.{bit_of}
use Rattle.dsv_unroll.specs.declared.fitting.TestedTerm.{TestedTerm}
use Rattle.dsv_unroll.specs.Rules.{term_at}
use Rattle.dsv_unroll.specs.SetGoals.{SetStart}

-- a term that stands and is not too wide for a node's value
pub record IsValue (t : TermsView) (id : TermId) : Type 0 where
  pub stands : id.0 < length t.nodes
  pub narrow : width_of t id ≤ 127

-- the terms of the registers, the input and the nodes so far, and the bit that says a break
pub record AreReady (net : Net) (registers : List TermId) (x : TermId) (t : TermsView)
    (ids : List TermId) (overflowed : TermId) : Type 0 where
  pub sound : AreSound t
  pub nodes : (i : ℕ) → i < length ids → IsValue t (term_at ids i)
  pub count : length registers ≡ length net.next
  pub registers_stand : (k : ℕ) → k < length registers → IsValue t (term_at registers k)
  pub input : IsValue t x
  pub overflowed_stands : overflowed.0 < length t.nodes
  pub overflowed_bit : width_of t overflowed ≡ 1

-- the terms of the registers and of the inputs to come, and the bit that says a break
pub record AreRunReady (net : Net) (registers inputs : List TermId) (t : TermsView)
    (overflowed : TermId) : Type 0 where
  pub sound : AreSound t
  pub count : length registers ≡ length net.next
  pub registers_stand : (k : ℕ) → k < length registers → IsValue t (term_at registers k)
  pub inputs_stand : (i : ℕ) → i < length inputs → IsValue t (term_at inputs i)
  pub overflowed_stands : overflowed.0 < length t.nodes
  pub overflowed_bit : width_of t overflowed ≡ 1

-- the least number of bits in which all numbers from one end to the other are words
pub record IsLeastWidth (bits : ℕ) (low high : ℤ) : Type 0 where
  pub least : lo bits ≤ℤ low
  pub greatest : high ≤ℤ hi bits
  pub no_less : (n : ℕ) → 1 ≤ n → lo n ≤ℤ low → high ≤ℤ hi n → bits ≤ n

-- bits that are joined
pub record AreBits (t : TermsView) (bits : List TermId) : Type 0 where
  pub stand : (i : ℕ) → i < length bits → HasBits t (term_at bits i) 1

-- terms that are not too wide for values
pub record AreAllValues (t : TermsView) (ids : List TermId) : Type 0 where
  pub stand : (i : ℕ) → i < length ids → IsValue t (term_at ids i)

-- a run without input so far
pub record AreCycleReady (net : Net) (t : TermsView) (zero_bit : TermId) (registers : List TermId)
    (sounding found : TermId) : Type 0 where
  pub sound : AreSound t
  pub registers_stand : AreAllValues t registers
  pub count : length registers ≡ length net.next
  pub zero_has_bit : HasBits t zero_bit 1
  pub sounding_bit : HasBits t sounding 1
  pub found_bit : HasBits t found 1

-- an entry, where the node fits a value
abbrev pub fit_tests : Node → Option TestedTerm → List (Option TestedTerm)
fit_tests node.Input entry = []
fit_tests (node.Reg k) entry = []
fit_tests (node.MulConst coeff of) entry = []
fit_tests (node.Round of) entry = []
fit_tests (node.Add left right) entry = []
fit_tests (node.Sub left right) entry = []
fit_tests (node.Fit of) entry = entry ∷ []
fit_tests (node.Scale of) entry = []

-- a term of one bit whose word says a truth
pub record IsTruth (t : TermsView) (id : TermId) : Type 0 where
  pub bit : HasBits t id 1
  pub truth : List ℕ → Bool
  pub word : (values : List ℕ) → word_of t values id ≡ bit_of (truth values)

-- a tested term and its bits
pub record IsTest (t : TermsView) (tested : TestedTerm) : Type 0 where
  pub value : IsValue t tested.value
  pub is_word : IsTruth t tested.is_word
  pub outside : IsTruth t tested.outside

-- the same, where there is one
abbrev pub IsEntry : TermsView → Option TestedTerm → Type 0
IsEntry t None = Unit {0}
IsEntry t (Some tested) = IsTest t tested

-- tested terms that stand
pub record AreTested (t : TermsView) (entries : List (Option TestedTerm)) : Type 0 where
  pub stand : All (IsEntry t) entries

-- the bit that is 1 where a value so far that may be no word was none, and the tests so far
pub record AreKnown (t : TermsView) (overflowed : TermId) (tests : List TermId) : Type 0 where
  pub sound : AreSound t
  pub bit : IsTruth t overflowed
  pub bits : AreBits t tests

-- ---- sets
-- what the test of a set stands on: a zero in one bit, and the terms of few registers
pub record IsSetReady (t : TermsView) (zero_bit : TermId) (registers : List TermId) : Type 0 where
  pub sound : AreSound t
  pub zero_has_bit : HasBits t zero_bit 1
  pub registers_stand : AreAllValues t registers
  pub few : length registers ≤ most_registers

-- the states of a run so far: a zero in one bit, the terms of the registers, and a bit for each
-- state
pub record AreStatesReady (net : Net) (t : TermsView) (zero_bit : TermId)
    (registers inside : List TermId) : Type 0 where
  pub sound : AreSound t
  pub zero_has_bit : HasBits t zero_bit 1
  pub registers_stand : AreAllValues t registers
  pub count : length registers ≡ length net.next
  pub inside_bits : AreBits t inside

-- before the first state of a set's goal
pub record IsStartReady (net : Net) (s : SetStart) : Type 0 where
  pub states : AreStatesReady net s.terms s.zero_bit s.registers []
  pub inputs_stand : AreAllValues s.terms s.inputs
  pub tests_bits : AreBits s.terms s.tests
