use Rattle.std.proofs.Common.{arith}
use Rattle.dsv_realise.specs.Netlists.{transposed_delta_nodes}
use Rattle.dsv_realise.proofs.Piecewise.{transposed_delta_more}
use Rattle.dsv_realise.proofs.realisations.transposed_delta_states.Goals as goal

pub loop-i-preserved : goal.loop-i-preserved
loop-i-preserved c =
    let q = c.args.quantised.now in
    record {
      same = transposed_delta_more q c.args.output c.loop-i.i c.loop-i.nodes.items c.line.new.nodes.items c.line-in-loop-i.new.nodes.items c.loop-i.next.items c.push.new.self.items c.in_ok-change.change c.in_ok-place.place (transposed_delta_nodes q)
          (omega (arith, c.loop-i-test.true, c.order-i-end.ensures.value)) c.order-i-end.ensures.quantised.one_length (rw c.transposed_line.ensures.value at c.in_ok-change.ensures.made) (rw c.delta_line.ensures.value at c.in_ok-place.ensures.made) c.in_ok-push.ensures.items c.loop-i.invariant.same;
      few = omega (arith, c.loop-i.invariant.few, c.in_ok-change.ensures.few, c.in_ok-place.ensures.few, c.transposed_line.ensures.count, c.delta_line.ensures.count);
    }
