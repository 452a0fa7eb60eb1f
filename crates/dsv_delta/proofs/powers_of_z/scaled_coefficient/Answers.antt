use Rattle.std.proofs.Common.{◌-◌, ◌*◌, ◌^◌, ℤ, pos, ◌*ℤ◌, sym, ap, ◌∙◌, arith}
use Rattle.dsv_delta.specs.Differences.{bounded}
use Rattle.dsv_delta.proofs.Scaling.{bounded_none, bounded_some, large_bounded, product_grows, power_positive, both_powers}
use Rattle.dsv_delta.proofs.powers_of_z.scaled_coefficient.Goals as goal

pub returns-in_err-product : goal.returns-in_err-product
returns-in_err-product c =
    let w = c.args.word.now in
    let m = c.args.scale.numerator ^ c.args.j in
    let n = c.args.scale.denominator ^ (c.args.order - c.args.j) in
    let big = bounded_none (w *ℤ pos m) (sym c.in_err-product.was ∙ c.product_with_power.ensures ∙ ap (λ (z : ℤ). bounded (z *ℤ pos m)) c.number_of.ensures) in
    let grows = product_grows w m n (power_positive c.args.scale.denominator (c.args.order - c.args.j) c.requires.denominator) in
    c.from_residual.ensures ∙ sym (large_bounded (w *ℤ pos (m * n)) (omega arith))

pub returns : goal.returns
returns c =
    let w = c.args.word.now in
    let m = c.args.scale.numerator ^ c.args.j in
    let n = c.args.scale.denominator ^ (c.args.order - c.args.j) in
    let made = bounded_some (w *ℤ pos m) c.in_ok-product.product (sym c.in_ok-product.was ∙ c.product_with_power.ensures ∙ ap (λ (z : ℤ). bounded (z *ℤ pos m)) c.number_of.ensures) in
    c.product_with_power-2.ensures ∙ ap (λ z. bounded (z *ℤ pos n)) made.0 ∙ ap bounded (both_powers w m n)
