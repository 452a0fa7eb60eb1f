use Rattle.std.proofs.Common.{◌≡◌, ◌^◌, pos, ◌*ℤ◌}
use Rattle.dsv_loop.proofs.expansion.product_with_power.Given as goal

abbrev pub invariant-loop-turn : goal.invariant-loop-turn
invariant-loop-turn l = l.product ≡ l.fn.number *ℤ pos (l.base ^ l.turn)
