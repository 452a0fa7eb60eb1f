use Rattle.std.proofs.Common.{◌^◌, arith}
use Rattle.dsv_forms.proofs.Passing.{narrow}
use Rattle.dsv_closed_forms.specs.ClosedForm.{fall_scale}
use Rattle.dsv_closed_forms.proofs.SecondForm.{sizes}
use Rattle.dsv_closed_forms.proofs.coefficients.Coefficients.fall_scale.Goals as goal

pub product-requires : goal.product-requires
product-requires c =
    let s = c.args.self.now in
    rw (c.difference.ensures, c.gap.ensures.value) (narrow (2 ^ 73) (fall_scale s.c0 s.c1 s.c2) (sizes s.c0 s.c1 s.c2 c.requires.small).scale (omega arith))
