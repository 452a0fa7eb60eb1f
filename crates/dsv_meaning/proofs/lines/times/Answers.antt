use Rattle.std.proofs.Common.{◌≤◌, ◌^◌, rules}
use Rattle.std.specs.Int.RustNames.{unsigned_abs}
use Rattle.std.proofs.Math.IntN.{◌*ℤ◌}
use Rattle.std.proofs.lemmas.Int.{to_z-of_z}
use mir.Syntax.{w64, w128}
use mir.Val.{SFits}
use Rattle.dsv_meaning.proofs.Sizes.{fits_size, product_size, small_fits}
use Rattle.dsv_meaning.proofs.lines.times.Goals as goal

pub returns-clause-small : goal.returns-clause-small
returns-clause-small c =
    let coeff : SFits w64 c.args.coeff.now = search rules in
    let word : SFits w64 c.args.word.now = search rules in
    let size : unsigned_abs (c.args.coeff.now *ℤ c.args.word.now) ≤ 2 ^ 111 = product_size c.args.coeff.now c.args.word.now c.requires (fits_size c.args.word.now word) in
    let product : SFits w128 (c.args.coeff.now *ℤ c.args.word.now) = small_fits (c.args.coeff.now *ℤ c.args.word.now) size in
    let wide_coeff : SFits w128 c.args.coeff.now = search rules in
    let wide_word : SFits w128 c.args.word.now = search rules in
    simp (to_z-of_z, c.into-coeff.ensures, c.into-word.ensures) size
