use Rattle.std.proofs.Common.{◌≡◌, ◌^◌, true, arith}
use Rattle.std.proofs.Math.IntN.{ℤ, ◌*ℤ◌}
use Rattle.dsv_algebra.specs.Narrow.{is_narrow}
use Rattle.dsv_forms.proofs.Passing.{narrow}
use Rattle.dsv_closed_forms.specs.ClosedForm.{fall_scale}
use Rattle.dsv_closed_forms.specs.SmallCoefficients.{AreSmall}
use Rattle.dsv_closed_forms.proofs.SecondForm.{sizes}
use Rattle.dsv_closed_forms.proofs.coefficients.Coefficients.loss.Goals as goal

narrow_loss : (c0 c1 c2 : ℤ) → AreSmall c0 c1 c2 → is_narrow (c0 *ℤ c0 *ℤ fall_scale c0 c1 c2) ≡ true
narrow_loss c0 c1 c2 h = narrow (2 ^ 119) (c0 *ℤ c0 *ℤ fall_scale c0 c1 c2) (sizes c0 c1 c2 h).loss (omega arith)

pub product-requires-2 : goal.product-requires-2
product-requires-2 c =
    let s = c.args.self.now in
    rw (c.product.ensures, c.fall_scale.ensures.value) (narrow_loss s.c0 s.c1 s.c2 c.requires.small)

pub returns-clause-narrow : goal.returns-clause-narrow
returns-clause-narrow c =
    let s = c.args.self.now in
    rw (c.product-2.ensures, c.product.ensures, c.fall_scale.ensures.value) (narrow_loss s.c0 s.c1 s.c2 c.requires.small)
