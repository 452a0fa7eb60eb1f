use Rattle.std.proofs.Common.{◌^◌, arith}
use Rattle.std.proofs.Math.IntN.{◌+ℤ◌, ◌*ℤ◌}
use Rattle.dsv_forms.proofs.Passing.{narrow}
use Rattle.dsv_closed_forms.specs.ClosedForm.{gap}
use Rattle.dsv_closed_forms.proofs.SecondFalls.{own_sizes}
use Rattle.dsv_closed_forms.proofs.coefficients.Coefficients.weight.Goals as goal

pub product-requires-3 : goal.product-requires-3
product-requires-3 c =
    let s = c.args.self.now in
    rw (c.gap.ensures.value, c.sum-squares.ensures, c.product.ensures, c.product-2.ensures)
    (narrow (2 ^ 96) (gap s.c0 s.c1 s.c2 *ℤ (s.c0 *ℤ s.c0 +ℤ s.c2 *ℤ s.c2)) (own_sizes s.c0 s.c1 s.c2 c.requires.small).weight (omega arith))
