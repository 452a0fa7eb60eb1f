use Rattle.std.proofs.Common.{◌+◌, arith}
use Rattle.dsv_meaning.specs.Equations.{order}
use Rattle.dsv_realise.specs.Making.{with_delta}
use Rattle.dsv_realise.specs.Netlists.{count}
use Rattle.dsv_realise.proofs.Piecewise.{delta_more}
use Rattle.dsv_realise.proofs.realisations.delta_states.Goals as goal

pub loop-node-preserved : goal.loop-node-preserved
loop-node-preserved c =
    let q = c.args.quantised.now in
    record {
      same = delta_more q c.loop-node.older c.loop-node.node (c.args.first + c.order.result) c.loop-node.nodes.items c.line.new.nodes.items c.loop-node.next.items c.push.new.self.items c.in_ok-place.place
          (with_delta q c.args.before (count c.args.first (order q)) (record { nodes = c.args.nodes.now.items; places = c.args.next.now.items }))
          c.loop-node-test.true (rw c.delta_line.ensures.value at c.in_ok-place.ensures.made) c.in_ok-push.ensures.items c.loop-node.invariant.same;
      few = omega (arith, c.loop-node.invariant.few, c.in_ok-place.ensures.few, c.delta_line.ensures.count, c.loop-node.auto.node);
    }
