use Rattle.std.proofs.Common.{◌≡◌, ◌-◌, ◌^◌, ℤ, pos, ◌*ℤ◌, IfOk, subst, ap, ◌∙◌}
use Rattle.dsv_delta.proofs.Scaling.{both_powers}
use Rattle.dsv_loop.proofs.expansion.scaled_coefficient.Goals as goal

pub returns : goal.returns
returns c =
    let w = c.args.word.now in
    let m = c.args.scale.numerator ^ c.args.j in
    let n = c.args.scale.denominator ^ (c.args.order - c.args.j) in
    let made : c.in_ok-product.product ≡ w *ℤ pos m = c.in_ok-product.ensures ∙ ap (λ z. z *ℤ pos m) c.in_ok-number_of.ensures in
    let P : ℤ → Type 0 = λ z. IfOk c.product_with_power-2.result (λ x. x ≡ z) in
    subst P (ap (λ z. z *ℤ pos n) made ∙ both_powers w m n) c.product_with_power-2.ensures
