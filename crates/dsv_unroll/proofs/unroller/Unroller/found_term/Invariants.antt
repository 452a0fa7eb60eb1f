use Rattle.std.proofs.Common.{◌≡◌, ◌+◌, ◌-◌}
use Rattle.dsv_unroll.specs.CycleGoals.{cycles_from}
use Rattle.dsv_unroll.specs.Beside.{cycle_with}
use Rattle.dsv_unroll.specs.Ready.{AreAllValues, AreCycleReady}
use Rattle.dsv_unroll.proofs.unroller.Unroller.found_term.Given as goal

abbrev pub invariant-loop-i : goal.invariant-loop-i
invariant-loop-i l = record {
  ready : AreCycleReady l.self.net.now l.terms l.self.zero_bit l.state.registers.items l.state.sounding l.state.found;
  starts : AreAllValues l.terms l.starts;
  same : cycles_from l.self.net.now l.starts l.self.zero_bit l.periods (l.i + 1) (l.periods - l.i) (cycle_with l.terms l.state)
      ≡ cycles_from l.self.net.now l.starts l.self.zero_bit l.periods 1 l.periods (cycle_with l.fn.terms l.fn.start);
}
