use Rattle.std.proofs.Common.{◌≡◌, ◌^◌, ◌<◌, pos, ◌*ℤ◌, unsigned_abs}
use Rattle.dsv_delta.proofs.powers_of_z.product_with_power.Given as goal

abbrev pub invariant-loop-turn : goal.invariant-loop-turn
invariant-loop-turn l = record {
  same : l.product ≡ l.fn.number *ℤ pos (l.base ^ l.turn);
  small : unsigned_abs l.product < 2 ^ 110;
}
