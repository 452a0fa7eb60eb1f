use Rattle.std.proofs.Common.{◌≡◌, ◌+◌, ◌-◌, get_or, ap, ◌∙◌, arith, rules}
use Rattle.std.proofs.Math.IntN.{pos}
use Rattle.dsv_linear.specs.Forms.{least_term, greatest_term, range, range_at, least_factor, greatest_factor}
use Rattle.dsv_linear.proofs.Passes.{other_default}
use Rattle.dsv_linear.proofs.SmallSums.{sum_room, sums_more, sums_same}
use Rattle.dsv_linear.proofs.extremes.small_sums.Goals as goal

pub loop-j-preserved : goal.loop-j-preserved
loop-j-preserved c =
    let ranges = c.args.ranges.now in
    let list = c.args.list.now in
    let j = c.loop-j.j in
    let a = get_or list j (pos 0) in
    let low = c.in_ok-factors.factors.low in
    let high = c.in_ok-factors.factors.high in
    let here : c.index-ranges-j.result ≡ range_at ranges j = c.index-ranges-j.is ∙ other_default ranges j c.index-ranges-j.result (range (pos 0) (pos 0)) (omega arith) in
    let first : low ≡ least_factor a (range_at ranges j) = c.in_ok-factors.ensures.0.0 ∙ ap (least_factor a) here in
    let last : high ≡ greatest_factor a (range_at ranges j) = c.in_ok-factors.ensures.1.0 ∙ ap (greatest_factor a) here in
    sums_more ranges list c.args.from j (range c.loop-j.low c.loop-j.high) (range c.with_product-low.result c.with_product-high.result) low high (omega arith)
    c.loop-j.invariant first last (search rules) (search rules) (search rules) (search rules)

pub loop-j-preserved-then-list-j-eq0 : goal.loop-j-preserved-then-list-j-eq0
loop-j-preserved-then-list-j-eq0 c =
    sums_same c.args.ranges.now c.args.list.now c.args.from c.loop-j.j (range c.loop-j.low c.loop-j.high) (omega arith) c.loop-j.invariant (search rules)

pub with_product-low-requires-clause-room : goal.with_product-low-requires-clause-room
with_product-low-requires-clause-room c =
    sum_room (λ i. least_term c.args.ranges.now c.args.list.now (c.args.from + i)) (c.loop-j.j - c.args.from) c.loop-j.low (omega arith) c.loop-j.invariant.low

pub with_product-high-requires-clause-room : goal.with_product-high-requires-clause-room
with_product-high-requires-clause-room c =
    sum_room (λ i. greatest_term c.args.ranges.now c.args.list.now (c.args.from + i)) (c.loop-j.j - c.args.from) c.loop-j.high (omega arith) c.loop-j.invariant.high
