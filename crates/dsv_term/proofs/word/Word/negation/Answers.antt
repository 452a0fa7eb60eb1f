use Rattle.std.proofs.Common.{ap, ◌∙◌, ◌<◌, ◌^◌, rules}
use Rattle.dsv_term.proofs.Wrapping.{narrow, negation_wraps}
use Rattle.dsv_term.proofs.word.Word.negation.Goals as goal

pub returns : goal.returns
returns c =
    let small : c.args.self.number < 2 ^ 128 = search rules in
    ap (λ n. record { width = c.args.self.width; number = n }) (c.low_bits.ensures ∙ negation_wraps 128 c.args.self.width c.args.self.number (narrow c.requires.lawful) small)
