use Rattle.std.proofs.Common.{◌≡◌, ◌+◌, ◌^◌, pos, ◌*ℤ◌, unsigned_abs, sym, ap, ◌∙◌, arith}
use Rattle.dsv_delta.proofs.Scaling.{bounded_none, bounded_some, large_bounded, small_bounded, power_grows, next_power, no_power}
use Rattle.dsv_delta.proofs.powers_of_z.product_with_power.Goals as goal

pub returns-in_err-product : goal.returns-in_err-product
returns-in_err-product c =
    let z = c.args.number in
    let b = c.args.base in
    let t = c.loop-turn.turn in
    let big = bounded_none (c.loop-turn.product *ℤ pos b) (sym c.in_err-product.was ∙ c.bounded_product.ensures) in
    let same = ap unsigned_abs (ap (λ p. p *ℤ pos b) c.loop-turn.invariant.same ∙ next_power z b t) in
    let grows = power_grows z b (t + 1) c.args.exponent c.requires.positive (omega arith) in
    c.from_residual.ensures ∙ sym (large_bounded (z *ℤ pos (b ^ c.args.exponent)) (omega arith))

pub loop-turn-preserved : goal.loop-turn-preserved
loop-turn-preserved c =
    let b = c.args.base in
    let made = bounded_some (c.loop-turn.product *ℤ pos b) c.in_ok-product.product (sym c.in_ok-product.was ∙ c.bounded_product.ensures) in
    record {
      same = made.0 ∙ ap (λ p. p *ℤ pos b) c.loop-turn.invariant.same ∙ next_power c.args.number b c.loop-turn.turn;
      small = made.1;
    }

pub loop-turn-init : goal.loop-turn-init
loop-turn-init c = record { same = no_power c.args.number c.args.base; small = c.requires.small }

pub returns : goal.returns
returns c =
    let z = c.args.number in
    let b = c.args.base in
    let all : c.loop-turn.turn ≡ c.args.exponent = omega arith in
    sym (small_bounded (z *ℤ pos (b ^ c.args.exponent)) c.loop-turn.product (c.loop-turn.invariant.same ∙ ap (λ k. z *ℤ pos (b ^ k)) all) c.loop-turn.invariant.small)
