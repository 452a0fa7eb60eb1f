use Rattle.std.proofs.Common.{◌≤◌, ◌<◌, length, sym, ap, ◌∙◌, arith, rules}
use Rattle.dsv_realise.specs.Making.{chained_at, no_places}
use Rattle.dsv_state_space.specs.Netlists.{with_states}
use Rattle.dsv_state_space.proofs.StateChains.{states_more, states_end}
use Rattle.dsv_state_space.proofs.netlist.new_states.Goals as goal

pub loop-i-preserved : goal.loop-i-preserved
loop-i-preserved c =
    let bs = c.b-inputs.result.now in
    let rows = c.a-rows.result.now in
    let i = c.loop-i.i in
    let view = c.a-rows.ensures.lawful in
    let inside : i < length rows = c.loop-i-test.true in
    let within : i < length bs = omega (arith, inside, view.rows, ap length c.a-rows.ensures.same, ap length c.b-inputs.ensures.same) in
    record {
      same = states_more bs rows i _ c.index-rows-i.result c.loop-i.nodes.items c.state_line.new.nodes.items c.loop-i.next.items c.push.new.self.items c.in_ok-place.place within inside (search rules) c.index-rows-i.is
          (rw c.as_slice.ensures at c.in_ok-place.ensures.made) c.in_ok-push.ensures.items ∙ c.loop-i.invariant.same;
      few = omega (arith, c.loop-i.invariant.few, c.in_ok-place.ensures.few);
    }

pub returns : goal.returns
returns c =
    let bs = c.b-inputs.result.now in
    let rows = c.a-rows.result.now in
    let view = c.a-rows.ensures.lawful in
    let over : length bs ≤ c.loop-i.i = omega (arith, c.loop-i-test.false, view.rows, ap length c.a-rows.ensures.same, ap length c.b-inputs.ensures.same) in
    sym (states_end bs rows c.loop-i.i (chained_at c.loop-i.nodes.items c.loop-i.next.items) over) ∙ c.loop-i.invariant.same
    ∙ ap (λ xs. with_states xs rows (no_places c.args.nodes.now.items)) c.b-inputs.ensures.same ∙ ap (λ ys. with_states c.args.system.now.b ys (no_places c.args.nodes.now.items)) c.a-rows.ensures.same
