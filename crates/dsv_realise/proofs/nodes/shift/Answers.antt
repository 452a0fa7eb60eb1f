use Rattle.std.proofs.Common.{◌-◌, ◌++◌}
use Rattle.dsv_realise.specs.Netlists.{shift}
use Rattle.dsv_realise.proofs.Numbers.{count_more}
use Rattle.dsv_realise.proofs.nodes.shift.Goals as goal

pub loop-k-preserved : goal.loop-k-preserved
loop-k-preserved c = count_more c.loop-k.next.items c.push-in-loop-k.new.self.items (c.args.next.now.items ++ shift c.args.first c.args.rest c.args.places) c.args.rest c.loop-k.k (c.args.places - 1) c.loop-k-test.true c.in_ok-push-2.ensures.items c.loop-k.invariant
