use Rattle.std.proofs.Common.{◌≡◌, [], length, drop}
use Rattle.dsv_term.specs.Terms.{KeepsTerms}
use Rattle.dsv_unroll.specs.SetGoals.{states_from}
use Rattle.dsv_unroll.specs.Beside.{states_with}
use Rattle.dsv_unroll.specs.Ready.{AreAllValues, AreStatesReady}
use Rattle.dsv_unroll.proofs.unroller.Unroller.state_terms.Given as goal

abbrev pub invariant-loop-x : goal.invariant-loop-x
invariant-loop-x l = record {
  ready : AreStatesReady l.self.net.now l.terms l.self.zero_bit l.state.registers.items l.state.inside.items;
  inputs : AreAllValues l.terms l.inputs;
  kept : KeepsTerms l.fn.terms l.terms;
  count : length l.state.inside.items ≡ l.x-index;
  same : states_from l.self.net.now l.self.zero_bit l.candidate (states_with l.terms l.state) (drop l.x-index l.inputs)
      ≡ states_from l.self.net.now l.self.zero_bit l.candidate (record { terms = l.fn.terms; registers = l.fn.start.items; inside = [] }) l.inputs;
}
