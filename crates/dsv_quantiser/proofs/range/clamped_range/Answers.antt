use Rattle.std.proofs.Common.{◌∙◌, rules, ap, arith}
use Rattle.std.proofs.lemmas.Int.{to_z-of_z, ints}
use Rattle.std.specs.Int.{int_max, int_min}
use Rattle.std.proofs.Math.IntN.{ℤ}
use mir.Syntax.{w64, w128}
use mir.Val.{SFits}
use Rattle.dsv_quantiser.proofs.Ranges.{empty_range, some_range, range_clamped}
use Rattle.dsv_quantiser.proofs.range.clamped_range.Goals as goal

pub returns-then-hi-lo-clause-value : goal.returns-then-hi-lo-clause-value
returns-then-hi-lo-clause-value c =
    let a : SFits w128 c.args.low = search rules in
    let b : SFits w128 c.args.high = search rules in
    let d : SFits w64 c.lo.result = search rules in
    let e : SFits w64 c.hi.result = search rules in
    let f : SFits w128 c.from.result = search rules in
    let g : SFits w128 c.from-2.result = search rules in
    let x : SFits w128 c.max-lo.result = search rules in
    let y : SFits w128 c.min-hi.result = search rules in
    let low = simp to_z-of_z at c.max-lo.ensures.value in
    let high = simp to_z-of_z at c.min-hi.ensures.value in
    let from = simp to_z-of_z at c.from.ensures in
    let to = simp to_z-of_z at c.from-2.ensures in
    let less = simp to_z-of_z at c.if-hi-lo.true in
    rw (to_z-of_z w128 c.max-lo.result x, to_z-of_z w128 c.min-hi.result y)
    (empty_range c.args.format c.args.low c.args.high c.max-lo.result c.min-hi.result
    (low ∙ ap (λ (z : ℤ). int_max c.args.low z) (from ∙ c.lo.ensures)) (high ∙ ap (λ (z : ℤ). int_min c.args.high z) (to ∙ c.hi.ensures)) less)

pub returns-clause-value : goal.returns-clause-value
returns-clause-value c =
    let a : SFits w128 c.args.low = search rules in
    let b : SFits w128 c.args.high = search rules in
    let d : SFits w64 c.lo.result = search rules in
    let e : SFits w64 c.hi.result = search rules in
    let f : SFits w128 c.from.result = search rules in
    let g : SFits w128 c.from-2.result = search rules in
    let x : SFits w128 c.max-lo.result = search rules in
    let y : SFits w128 c.min-hi.result = search rules in
    let low = simp to_z-of_z at c.max-lo.ensures.value in
    let high = simp to_z-of_z at c.min-hi.ensures.value in
    let from = simp to_z-of_z at c.from.ensures in
    let to = simp to_z-of_z at c.from-2.ensures in
    let less = simp to_z-of_z at c.if-hi-lo.false in
    let p : SFits w64 c.max-lo.result = omega (arith, ints) in
    let q : SFits w64 c.min-hi.result = omega (arith, ints) in
    rw (to_z-of_z w128 c.max-lo.result x, to_z-of_z w128 c.min-hi.result y, to_z-of_z w64 c.max-lo.result p, to_z-of_z w64 c.min-hi.result q)
    (some_range c.args.format c.args.low c.args.high c.max-lo.result c.min-hi.result
    (low ∙ ap (λ (z : ℤ). int_max c.args.low z) (from ∙ c.lo.ensures)) (high ∙ ap (λ (z : ℤ). int_min c.args.high z) (to ∙ c.hi.ensures)) less)

pub returns-clause-meaning : goal.returns-clause-meaning
returns-clause-meaning c =
    let a : SFits w128 c.args.low = search rules in
    let b : SFits w128 c.args.high = search rules in
    let d : SFits w64 c.lo.result = search rules in
    let e : SFits w64 c.hi.result = search rules in
    let f : SFits w128 c.from.result = search rules in
    let g : SFits w128 c.from-2.result = search rules in
    let x : SFits w128 c.max-lo.result = search rules in
    let y : SFits w128 c.min-hi.result = search rules in
    let low = simp to_z-of_z at c.max-lo.ensures.value in
    let high = simp to_z-of_z at c.min-hi.ensures.value in
    let from = simp to_z-of_z at c.from.ensures in
    let to = simp to_z-of_z at c.from-2.ensures in
    let less = simp to_z-of_z at c.if-hi-lo.false in
    let p : SFits w64 c.max-lo.result = omega (arith, ints) in
    let q : SFits w64 c.min-hi.result = omega (arith, ints) in
    rw (to_z-of_z w128 c.max-lo.result x, to_z-of_z w128 c.min-hi.result y, to_z-of_z w64 c.max-lo.result p, to_z-of_z w64 c.min-hi.result q)
    (range_clamped c.args.format c.args.low c.args.high c.max-lo.result c.min-hi.result
    (low ∙ ap (λ (z : ℤ). int_max c.args.low z) (from ∙ c.lo.ensures)) (high ∙ ap (λ (z : ℤ). int_min c.args.high z) (to ∙ c.hi.ensures)) less)
