use Rattle.std.proofs.Common.{◌≡◌, IfOk, unsigned_abs, subst, ap, ◌∙◌}
use Rattle.std.proofs.lemmas.Int.{to_z-of_z}
use mir.Syntax.{w64}
use mir.Val.{SFits}
use Rattle.dsv_delta.specs.ZCoefficients.{Dyadic, dyadic}
use Rattle.dsv_delta.proofs.Scaling.{dyadic_of}
use Rattle.dsv_loop.specs.Loops.{expanded}
use Rattle.dsv_loop.proofs.expansion.delta_expansion.Goals as goal

pub returns : goal.returns
returns c =
    let ws = c.args.words.now in
    let f = c.args.frac_bits in
    let fits : SFits w64 c.args.delta = c.ranges.delta in
    let size : c.unsigned_abs.result ≡ unsigned_abs c.args.delta = c.unsigned_abs.ensures.value ∙ ap unsigned_abs (to_z-of_z w64 c.args.delta fits) in
    let scale = c.lowest_dyadic.result in
    let same = dyadic_of (dyadic c.unsigned_abs.result f) scale.numerator scale.denominator c.lowest_dyadic.ensures.numerator c.lowest_dyadic.ensures.denominator in
    let P : Dyadic → Type 0 = λ d. IfOk c.expansion.result (λ found. found ≡ expanded d ws) in
    subst P (same ∙ ap (λ n. dyadic n f) size) c.expansion.ensures
