use Rattle.std.proofs.Common.{arith}
use Rattle.dsv_unroll.specs.Beside.{cycle_with}
use Rattle.dsv_unroll.specs.CycleGoals.{CycleTerms, cycles_from}
use Rattle.dsv_unroll.proofs.CycleTerms.{all_later}
use Rattle.dsv_unroll.proofs.CycleSteps.{cycle_step}
use Rattle.dsv_unroll.proofs.unroller.Unroller.found_term.Goals as goal

pub found_cycle-requires-clause-starts : goal.found_cycle-requires-clause-starts
found_cycle-requires-clause-starts c = all_later c.loop-i.terms c.quiet_sample.new.terms c.args.starts.now c.in_ok-next.ensures.kept c.loop-i.invariant.starts

pub loop-i-preserved : goal.loop-i-preserved
loop-i-preserved c =
    let l = c.loop-i in
    let net = c.args.self.now.net.now in
    let r = cycle_with l.terms l.state in
    let q = cycle_with c.quiet_sample.new.terms c.in_ok-next.next in
    let now = cycle_with c.found_cycle.new.terms c.in_ok-state.state in
    let end : CycleTerms = cycles_from net c.args.starts.now c.args.self.now.zero_bit c.args.periods 1 c.args.periods (cycle_with c.args.terms.now c.args.start) in
    let e = c.in_ok-next.ensures in
    let g = c.in_ok-state.ensures in
    let s = cycle_step net c.args.starts.now c.args.self.now.zero_bit c.args.periods l.i r q now end c.is_asked-asked.result (omega arith) (record { ready = l.invariant.ready; starts_stand = l.invariant.starts; same = l.invariant.same })
    e.built e.ready e.kept c.is_asked-asked.ensures g.built g.sound g.kept g.registers g.sounding g.found in
    record { ready = s.ready; starts = s.starts_stand; same = s.same }
