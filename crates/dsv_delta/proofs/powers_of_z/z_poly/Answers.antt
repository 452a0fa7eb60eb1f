use Rattle.std.proofs.Common.{◌≡◌, ℤ, List, MatchResult, Ok, Err, Result, unsigned_abs, subst, ap, ◌∙◌}
use Rattle.std.proofs.lemmas.Int.{to_z-of_z}
use mir.Syntax.{w64}
use mir.Val.{SFits}
use Rattle.dsv_delta.specs.declared.refusal.PolyWide.{PolyWide}
use Rattle.dsv_delta.specs.ZCoefficients.{Dyadic, dyadic, expansion}
use Rattle.dsv_delta.proofs.Scaling.{dyadic_of}
use Rattle.dsv_delta.proofs.powers_of_z.z_poly.Goals as goal

pub returns-clause-exact : goal.returns-clause-exact
returns-clause-exact c =
    let cs = c.args.coeffs.now in
    let fits : SFits w64 c.args.delta = c.ranges.delta in
    let size : c.unsigned_abs.result ≡ unsigned_abs c.args.delta = c.unsigned_abs.ensures.value ∙ ap unsigned_abs (to_z-of_z w64 c.args.delta fits) in
    let scale = c.lowest_dyadic.result in
    let found : dyadic c.unsigned_abs.result c.args.frac_bits ≡ dyadic (unsigned_abs c.args.delta) c.args.frac_bits = ap (λ n. dyadic n c.args.frac_bits) size in
    let same = dyadic_of (dyadic c.unsigned_abs.result c.args.frac_bits) scale.numerator scale.denominator c.lowest_dyadic.ensures.numerator c.lowest_dyadic.ensures.denominator in
    let meant = ap (λ (d : Dyadic). expansion d cs) (same ∙ found) in
    let P : Result (List ℤ) PolyWide → Type 0 = λ m. MatchResult c.coefficients_in_z.result (λ found. m ≡ Ok found.items) (λ refusal. m ≡ Err refusal) in
    subst P meant c.coefficients_in_z.ensures.exact
