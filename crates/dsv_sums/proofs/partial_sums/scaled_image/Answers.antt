use Rattle.dsv_algebra.proofs.Signs.{mul_positive}
use Rattle.dsv_sums.proofs.partial_sums.scaled_image.Goals as goal

pub rounded_quotient-requires : goal.rounded_quotient-requires
rounded_quotient-requires c =
    rw (c.square.ensures) (mul_positive c.args.c.now c.args.c.now c.requires.lead c.requires.lead)
