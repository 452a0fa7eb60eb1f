use Rattle.std.proofs.Common.{◌≡◌, ap, ◌∙◌, ◌^◌, ◌*◌, ◌%◌, ◌*ℤ◌, pos, rules, arith}
use Rattle.std.specs.Prelude.{FitsSigned}
use Rattle.std.specs.Int.{w128}
use Rattle.std.proofs.lemmas.Int.{ints}
use Rattle.dsv_term.specs.Word.{residue}
use Rattle.dsv_term.proofs.Wrapping.{narrow, passed, product_wraps}
use Rattle.dsv_term.proofs.word.Word.product.Goals as goal

pub returns : goal.returns
returns c =
    let w = c.args.self.width in
    let n = c.args.self.number in
    let z = c.from.result in
    let fits : FitsSigned w128 z = search rules in
    let same : z ≡ c.args.coeff = omega (arith, ints) in
    ap (λ m. record { width = w; number = m })
    (c.low_bits.ensures ∙ (ap (λ m. m * n % 2 ^ 128 % 2 ^ w) (c.cast_unsigned.ensures ∙ passed z fits)
    ∙ (product_wraps w z n (narrow c.requires.lawful) fits ∙ ap (λ y. residue w (y *ℤ pos n)) same)))
