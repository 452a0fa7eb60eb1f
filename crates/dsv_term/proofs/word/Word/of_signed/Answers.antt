use Rattle.std.proofs.Common.{ap, ◌∙◌, ◌^◌, ◌%◌, rules}
use Rattle.std.specs.Prelude.{FitsSigned}
use Rattle.std.specs.Int.{w128}
use Rattle.dsv_term.proofs.Wrapping.{narrow, passed, cast_wraps}
use Rattle.dsv_term.proofs.word.Word.of_signed.Goals as goal

pub returns : goal.returns
returns c =
    let w = c.args.width in
    let z = c.args.z in
    let fits : FitsSigned w128 z = search rules in
    ap (λ n. record { width = w; number = n })
    (c.low_bits.ensures ∙ (ap (λ n. n % 2 ^ w) (c.cast_unsigned.ensures ∙ passed z fits) ∙ cast_wraps w z (narrow c.requires) fits))
