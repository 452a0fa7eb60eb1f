use Rattle.std.proofs.Common.{arith}
use Rattle.dsv_realise.specs.Netlists.{sources}
use Rattle.dsv_realise.proofs.Numbers.{register_more}
use Rattle.dsv_realise.proofs.nodes.source_nodes.Goals as goal

pub loop-register-preserved : goal.loop-register-preserved
loop-register-preserved c = record {
  same = register_more c.loop-register.nodes.items c.push-in-loop-register.new.self.items (sources c.args.registers) c.loop-register.register c.args.registers c.loop-register-test.true c.in_ok-push-2.ensures.items c.loop-register.invariant.same;
  few = grind (arith, c.in_ok-push-2.ensures.items, c.loop-register.invariant.few);
}
