-- The scales as numbers.
use Rattle.std.proofs.Common.{◌≡◌, ◌*◌, refl}
use Rattle.std.proofs.Math.IntN.{pos}
use Rattle.dsv_word.proofs.Powers.{power_small}
use Rattle.dsv_linear.specs.Forms.{scale, range_scale}
use Rattle.dsv_netlist.proofs.Scaling.{power_positive}

pub scale_is : 9007199254740992 ≡ scale
unfolding scale
scale_is = refl

pub range_scale_is : 128 ≡ range_scale
unfolding range_scale
range_scale_is = refl

pub scale_is-integer : pos 9007199254740992 ≡ pos scale
unfolding scale
scale_is-integer = refl

pub full_scale_is : 1152921504606846976 ≡ scale * range_scale
unfolding scale range_scale
full_scale_is = refl

pub range_scale_is-integer : pos 128 ≡ pos range_scale
unfolding range_scale
range_scale_is-integer = refl

pub ruleset scales = (scale_is, range_scale_is, scale_is-integer, range_scale_is-integer, full_scale_is)

pub ruleset powers = (power_small, power_positive)
