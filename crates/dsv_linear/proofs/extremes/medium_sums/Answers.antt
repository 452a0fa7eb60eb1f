use Rattle.std.proofs.Common.{◌≡◌, ◌+◌, ◌-◌, get_or, refl, ap, subst, ◌∙◌, arith, rules}
use Rattle.std.proofs.Math.IntN.{ℤ, pos, ◌+ℤ◌, ◌*ℤ◌}
use Rattle.dsv_linear.specs.SmallNumbers.{IsMedium, IsSmallProduct}
use Rattle.dsv_linear.specs.Forms.{least_term, greatest_term, range, range_at}
use Rattle.dsv_linear.proofs.Passes.{other_default}
use Rattle.dsv_linear.proofs.SmallSums.{sum_room, sums_more, medium_product_size}
use Rattle.dsv_linear.proofs.extremes.medium_sums.Goals as goal

pub loop-j-preserved : goal.loop-j-preserved
loop-j-preserved c =
    let ranges = c.args.ranges.now in
    let list = c.args.list.now in
    let j = c.loop-j.j in
    let a = c.index-list-j.result in
    let low = c.in_ok-factors.factors.low in
    let high = c.in_ok-factors.factors.high in
    let value : a ≡ get_or list j (pos 0) = c.index-list-j.is ∙ other_default list j a (pos 0) (omega arith) in
    let here : c.index-ranges-j.result ≡ range_at ranges j = c.index-ranges-j.is ∙ other_default ranges j c.index-ranges-j.result (range (pos 0) (pos 0)) (omega arith) in
    let medium : IsMedium a = search rules in
    sums_more ranges list c.args.from j (range c.loop-j.low c.loop-j.high) (range c.with_medium_product-low.result c.with_medium_product-high.result) low high (omega arith)
    c.loop-j.invariant (c.in_ok-factors.ensures.0.0 ∙ rw (value, here) refl) (c.in_ok-factors.ensures.1.0 ∙ rw (value, here) refl)
    (subst (λ (z : ℤ). IsSmallProduct z low) value (medium_product_size a low medium c.in_ok-factors.ensures.0.1)) (subst (λ (z : ℤ). IsSmallProduct z high) value (medium_product_size a high medium c.in_ok-factors.ensures.1.1))
    (c.with_medium_product-low.ensures ∙ ap (λ z. c.loop-j.low +ℤ z *ℤ low) value) (c.with_medium_product-high.ensures ∙ ap (λ z. c.loop-j.high +ℤ z *ℤ high) value)

pub with_medium_product-low-requires-clause-room : goal.with_medium_product-low-requires-clause-room
with_medium_product-low-requires-clause-room c =
    sum_room (λ i. least_term c.args.ranges.now c.args.list.now (c.args.from + i)) (c.loop-j.j - c.args.from) c.loop-j.low (omega arith) c.loop-j.invariant.low

pub with_medium_product-high-requires-clause-room : goal.with_medium_product-high-requires-clause-room
with_medium_product-high-requires-clause-room c =
    sum_room (λ i. greatest_term c.args.ranges.now c.args.list.now (c.args.from + i)) (c.loop-j.j - c.args.from) c.loop-j.high (omega arith) c.loop-j.invariant.high
