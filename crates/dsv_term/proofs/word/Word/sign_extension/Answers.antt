use Rattle.std.proofs.Common.{ap, ◌∙◌, ◌^◌, ◌%◌, rules}
use Rattle.std.specs.Prelude.{FitsSigned}
use Rattle.std.specs.Int.{w128}
use Rattle.dsv_term.specs.Word.{residue}
use Rattle.dsv_term.proofs.Wrapping.{narrow, passed, cast_wraps}
use Rattle.dsv_term.proofs.word.Word.sign_extension.Goals as goal

pub returns : goal.returns
returns c =
    let w = c.args.width in
    let z = c.signed_value.result in
    let fits : FitsSigned w128 z = search rules in
    ap (λ n. record { width = w; number = n })
    (c.low_bits.ensures ∙ (ap (λ n. n % 2 ^ w) (c.cast_unsigned.ensures ∙ passed z fits)
    ∙ (cast_wraps w z (narrow c.requires.width) fits ∙ ap (residue w) c.signed_value.ensures)))
