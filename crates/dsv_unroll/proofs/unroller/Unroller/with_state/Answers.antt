use Rattle.std.proofs.Common.{List, sym, subst}
use Rattle.dsv_term.specs.declared.node.TermId.{TermId}
use Rattle.dsv_unroll.specs.Ready.{AreStatesReady}
use Rattle.dsv_unroll.proofs.SetStates.{states_ready_with}
use Rattle.dsv_unroll.proofs.unroller.Unroller.with_state.Goals as goal

pub returns-clause-ready : goal.returns-clause-ready
returns-clause-ready c =
    let net = c.args.self.now.net.now in
    let state = c.args.state in
    let r = states_ready_with net c.args.terms.now c.set_term.new.terms c.args.self.now.zero_bit state.registers.items state.inside.items c.in_ok-here.here c.requires.ready c.in_ok-here.ensures.adds in
    subst (λ (inside : List TermId). AreStatesReady net c.set_term.new.terms c.args.self.now.zero_bit state.registers.items inside) (sym c.in_ok-push.ensures.items) r
