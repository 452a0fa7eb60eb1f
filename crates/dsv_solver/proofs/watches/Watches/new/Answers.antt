use Rattle.std.proofs.Common.{arith}
use Rattle.dsv_solver.proofs.Adding.{AllEmpty, no_pair, empty_below}
use Rattle.dsv_solver.proofs.watches.Watches.new.Goals as goal

pub invariant_of-result : goal.invariant_of-result
invariant_of-result c =
    let h : AllEmpty c.loop.counter c.loop.lists.items = c.loop.invariant in
    record {
      few_vars = c.requires;
      room = omega (arith, h.count, c.loop-test.false);
      over = λ i p e. absurd (no_pair c.new-2.result.items i p c.new-2.ensures.items e);
      listed = λ i p e. absurd (no_pair c.new-2.result.items i p c.new-2.ensures.items e);
      below = (empty_below c.loop.counter c.loop.lists.items _ h).each;
    }
