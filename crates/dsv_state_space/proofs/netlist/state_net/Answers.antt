use Rattle.std.proofs.Common.{refl, ap, sym, subst, ◌∙◌}
use Rattle.dsv_netlist.specs.Nodes.{Net}
use Rattle.dsv_netlist.specs.Conditions.{IsNetlist}
use Rattle.dsv_netlist.specs.Counts.{counts_of}
use Rattle.dsv_state_space.specs.Equations.{state_space_of}
use Rattle.dsv_state_space.proofs.StateChains.{state_net_made}
use Rattle.dsv_state_space.proofs.StateNets.{net_built}
use Rattle.dsv_state_space.proofs.StateRuns.{runs_alike}
use Rattle.dsv_system.specs.Systems.{behaviour_of, Agree}
use Rattle.dsv_netlist.specs.Systems.{runs_of}
use Rattle.dsv_state_space.proofs.netlist.state_net.Goals as goal

pub unwrap-requires : goal.unwrap-requires
unwrap-requires c =
    let e = state_net_made c.args.system.now c.in_ok-nodes.nodes.items c.output_line.new.nodes.items c.new_states.new.nodes.items c.in_ok-next.next.items c.in_ok-output.output c.states.result c.args.system.now.d c.args.system.now.c c.format.result
    c.in_ok-nodes.ensures.made c.states.ensures.count refl refl c.in_ok-output.ensures.made c.in_ok-next.ensures c.format.ensures.same in
    c.new-net.ensures.exact.1 (subst IsNetlist (sym e) (net_built c.args.system.now c.states.ensures.lawful).netlist)

pub returns-clause-net : goal.returns-clause-net
returns-clause-net c =
    let e = state_net_made c.args.system.now c.in_ok-nodes.nodes.items c.output_line.new.nodes.items c.new_states.new.nodes.items c.in_ok-next.next.items c.in_ok-output.output c.states.result c.args.system.now.d c.args.system.now.c c.format.result
    c.in_ok-nodes.ensures.made c.states.ensures.count refl refl c.in_ok-output.ensures.made c.in_ok-next.ensures c.format.ensures.same in
    (rw c.unwrap.ensures at c.new-net.ensures.same) ∙ e

pub returns-clause-runs : goal.returns-clause-runs
returns-clause-runs c =
    let P : Net → Type 0 = λ net. Agree (runs_of net) (behaviour_of (state_space_of c.args.system.now)) in
    subst P (sym (returns-clause-net c)) (runs_alike c.args.system.now c.states.ensures.lawful)

pub returns-clause-products : goal.returns-clause-products
returns-clause-products c = ap (λ (net : Net). (counts_of net).products) (returns-clause-net c) ∙ (net_built c.args.system.now c.states.ensures.lawful).products
