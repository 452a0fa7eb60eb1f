use Rattle.std.proofs.Common.{ap, sym, subst, ◌∙◌}
use Rattle.dsv_meaning.specs.Systems.{equations_of}
use Rattle.dsv_netlist.specs.Nodes.{Net}
use Rattle.dsv_netlist.specs.Conditions.{IsNetlist}
use Rattle.dsv_netlist.specs.Counts.{counts_of}
use Rattle.dsv_realise.proofs.Runs.{runs_alike}
use Rattle.dsv_realise.proofs.Conditions.{net_realised}
use Rattle.dsv_realise.proofs.Whole.{net_made}
use Rattle.dsv_system.specs.Systems.{behaviour_of, Agree}
use Rattle.dsv_netlist.specs.Systems.{runs_of}
use Rattle.dsv_realise.proofs.netlist.realise.Goals as goal

pub unwrap-requires : goal.unwrap-requires
unwrap-requires c =
    let q = c.args.quantised.now in
    let parts = c.in_ok-parts.parts in
    let e = net_made q parts.nodes.items parts.next.items parts.output c.forward_registers-feed_forward.result c.format.result c.realisation.result c.order.result c.forward_registers-feed_forward.ensures c.realisation.ensures.same c.order.ensures.value c.format.ensures.same c.in_ok-parts.ensures in
    c.new-net.ensures.exact.1 (subst IsNetlist (sym e) (net_realised q c.order.ensures.quantised).netlist)

pub returns-clause-net : goal.returns-clause-net
returns-clause-net c =
    let parts = c.in_ok-parts.parts in
    let e = net_made c.args.quantised.now parts.nodes.items parts.next.items parts.output c.forward_registers-feed_forward.result c.format.result c.realisation.result c.order.result c.forward_registers-feed_forward.ensures c.realisation.ensures.same c.order.ensures.value c.format.ensures.same c.in_ok-parts.ensures in
    (rw c.unwrap.ensures at c.new-net.ensures.same) ∙ e

pub returns-clause-runs : goal.returns-clause-runs
returns-clause-runs c =
    let P : Net → Type 0 = λ net. Agree (runs_of net) (behaviour_of (equations_of c.args.quantised.now)) in
    subst P (sym (returns-clause-net c)) (runs_alike c.args.quantised.now c.order.ensures.quantised)

pub returns-clause-counts : goal.returns-clause-counts
returns-clause-counts c = ap counts_of (returns-clause-net c) ∙ (net_realised c.args.quantised.now c.order.ensures.quantised).counts
