use Rattle.std.proofs.Common.{◌^◌, arith}
use Rattle.std.proofs.Math.IntN.{pos, ◌+ℤ◌, ◌*ℤ◌}
use Rattle.dsv_forms.proofs.Passing.{Within, narrow}
use Rattle.dsv_closed_forms.specs.ClosedForm.{fall_scale}
use Rattle.dsv_closed_forms.proofs.SecondForm.{sizes}
use Rattle.dsv_closed_forms.proofs.coefficients.Coefficients.entries.Goals as goal

pub sum-requires : goal.sum-requires
sum-requires c =
    let s = c.args.self.now in
    let last = pos 2 *ℤ (s.c0 +ℤ s.c2) *ℤ (s.c2 *ℤ s.c2) +ℤ fall_scale s.c0 s.c1 s.c2 in
    rw (c.twice_times_product-2.ensures, c.sum_of_ends-ends.ensures.value, c.fall_scale.ensures.value) (narrow (2 ^ 74) last (sizes s.c0 s.c1 s.c2 c.requires.small).s (omega arith))

pub returns-clause-small : goal.returns-clause-small
returns-clause-small c =
    let s = c.args.self.now in
    let z = sizes s.c0 s.c1 s.c2 c.requires.small in
    let first : Within (2 ^ 71) c.twice_times_product.result = rw (c.twice_times_product.ensures, c.sum_of_ends-ends.ensures.value) z.r in
    let beside : Within (2 ^ 70) c.twice_times_product-beside.result = rw c.twice_times_product-beside.ensures z.p in
    let last : Within (2 ^ 74) c.sum.result = rw (c.sum.ensures, c.twice_times_product-2.ensures, c.sum_of_ends-ends.ensures.value, c.fall_scale.ensures.value) z.s in
    record { first = omega (arith, first); upper = omega (arith, beside); lower = omega (arith, beside); last = last }
