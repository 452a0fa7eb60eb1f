use Rattle.std.proofs.Common.{◌≡◌, arith}
use Rattle.dsv_meaning.specs.Equations.{order}
use Rattle.dsv_realise.proofs.Piecewise.{delta_pair}
use Rattle.dsv_realise.proofs.realisations.delta_form_one.Goals as goal

pub returns : goal.returns
returns c =
    let q = c.args.quantised.now in
    let n : c.order.result ≡ order q = omega (arith, c.order.ensures.value) in
    delta_pair q c.in_ok-form.form.nodes.items c.delta_states.new.nodes.items c.delta_states-2.new.nodes.items c.in_ok-form.form.place c.order.result c.new-next.result.items c.delta_states.new.next.items c.delta_states-2.new.next.items
    c.in_ok-form.ensures.made c.new-next.ensures.items n c.in_ok-delta_states.ensures.made c.in_ok-delta_states-2.ensures.made
