use Rattle.std.proofs.Common.{◌*◌, ◌^◌, arith}
use Rattle.std.proofs.Math.IntN.{pos, ◌*ℤ◌}
use Rattle.dsv_forms.proofs.Passing.{Within, narrow, within_times}
use Rattle.dsv_closed_forms.proofs.coefficients.twice_times_product.Goals as goal

pub product-requires-3 : goal.product-requires-3
product-requires-3 c =
    let twice : Within (2 * 2 ^ 24) (pos 2 *ℤ c.args.a) = within_times 2 (2 ^ 24) (pos 2) c.args.a (omega arith) c.requires.small_a in
    let both : Within (2 ^ 23 * 2 ^ 23) (c.args.b *ℤ c.args.c) = within_times (2 ^ 23) (2 ^ 23) c.args.b c.args.c c.requires.small_b c.requires.small_c in
    rw (c.product.ensures, c.from.ensures, c.product-2.ensures) (narrow (2 * 2 ^ 24 * (2 ^ 23 * 2 ^ 23)) (pos 2 *ℤ c.args.a *ℤ (c.args.b *ℤ c.args.c)) (within_times (2 * 2 ^ 24) (2 ^ 23 * 2 ^ 23) (pos 2 *ℤ c.args.a) (c.args.b *ℤ c.args.c) twice both) (omega arith))
