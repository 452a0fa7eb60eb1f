-- What the tests of facts are to the goal of an overflow.
use Rattle.std.specs.Prelude.{◌≡◌, ℕ, List, ℤ, ◌≤ℤ◌}
use Rattle.dsv_word.specs.Words.{width, lo, hi}
use Rattle.dsv_netlist.specs.Conditions.{IsNetlist}
use Rattle.dsv_netlist.specs.Nodes.{Net}
use Rattle.dsv_term.specs.Building.{Built}
use Rattle.dsv_term.specs.Terms.{AreValues, word_of}
use Rattle.dsv_unroll.specs.Goals.{overflow_of, plain_overflow_of}

-- the goal has the inputs of the plain one, and at all values of these the word of its root
pub record HasRootOf (goal plain : Built) : Type 0 where
  pub inputs : goal.terms.inputs ≡ plain.terms.inputs
  pub word : (values : List ℕ) → AreValues plain.terms.inputs values
      → word_of goal.terms values goal.id ≡ word_of plain.terms values plain.id

-- for every netlist, every range whose low end isn't above all words nor its high end below them,
-- and every number of samples
abbrev pub FactsKeepRoot : Type 0
FactsKeepRoot = (net : Net) (low high : ℤ) (samples : ℕ) → IsNetlist net
    → low ≤ℤ hi (width net.format) → lo (width net.format) ≤ℤ high
    → HasRootOf (overflow_of net low high samples) (plain_overflow_of net low high samples)
