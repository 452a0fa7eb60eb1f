use Rattle.std.proofs.Common.{ap, ◌∙◌, pos, ◌*ℤ◌}
use Rattle.dsv_delta.proofs.Scaling.{next_power}
use Rattle.dsv_loop.proofs.expansion.product_with_power.Goals as goal

pub loop-turn-preserved : goal.loop-turn-preserved
loop-turn-preserved c =
    let b = c.args.base in
    c.in_ok-product.ensures ∙ ap (λ z. z *ℤ pos b) c.loop-turn.invariant ∙ next_power c.args.number b c.loop-turn.turn
