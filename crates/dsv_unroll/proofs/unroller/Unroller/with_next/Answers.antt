use Rattle.std.proofs.Common.{◌∙◌, ap, length}
use Rattle.dsv_unroll.proofs.SampleSteps.{next_below}
use Rattle.dsv_unroll.proofs.SetStates.{next_ready}
use Rattle.dsv_unroll.proofs.unroller.Unroller.with_next.Goals as goal

pub next_terms-requires : goal.next_terms-requires
next_terms-requires c = next_below c.args.self.now.net.now (length c.deref-2.result.now) c.requires.netlist (ap length c.deref-2.ensures.value ∙ c.in_ok-sample.ensures.count)

pub returns-clause-ready : goal.returns-clause-ready
returns-clause-ready c =
    let e = c.in_ok-sample.ensures in
    next_ready c.args.self.now.net.now c.args.self.now.zero_bit c.args.x c.args.terms.now c.sample_terms.new.terms c.args.state.registers.items c.deref.result.now c.in_ok-sample.sample.ids.items c.deref-2.result.now c.in_ok-registers.registers.items c.args.state.inside.items
    c.in_ok-sample.sample.overflowed c.requires.netlist c.requires.ready e.kept e.ready e.count c.deref-2.ensures.value c.in_ok-registers.ensures
