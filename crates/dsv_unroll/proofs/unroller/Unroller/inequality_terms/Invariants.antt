use Rattle.std.proofs.Common.{◌≡◌, [], drop}
use Rattle.dsv_word.specs.Words.{width}
use Rattle.dsv_term.specs.Terms.{KeepsTerms}
use Rattle.dsv_unroll.specs.SetGoals.{inequalities_from}
use Rattle.dsv_unroll.specs.Ready.{AreBits, IsSetReady}
use Rattle.dsv_unroll.proofs.unroller.Unroller.inequality_terms.Given as goal

abbrev pub invariant-loop-i : goal.invariant-loop-i
invariant-loop-i l = record {
  ready : IsSetReady l.terms l.self.zero_bit l.registers;
  bits : AreBits l.terms l.tests.items;
  kept : KeepsTerms l.fn.terms l.terms;
  same : inequalities_from (width l.self.net.now.format) l.self.zero_bit l.registers (record { terms = l.terms; ids = l.tests.items }) (drop l.i l.inequalities)
      ≡ inequalities_from (width l.self.net.now.format) l.self.zero_bit l.registers (record { terms = l.fn.terms; ids = [] }) l.inequalities;
}
