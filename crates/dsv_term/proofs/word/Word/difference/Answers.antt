use Rattle.std.proofs.Common.{ap, ◌∙◌, ◌<◌, ◌^◌, rules}
use Rattle.dsv_term.proofs.Wrapping.{narrow, difference_wraps}
use Rattle.dsv_term.proofs.word.Word.difference.Goals as goal

pub returns : goal.returns
returns c =
    let small : c.args.other.number < 2 ^ 128 = search rules in
    ap (λ n. record { width = c.args.self.width; number = n }) (c.low_bits.ensures ∙ difference_wraps 128 c.args.self.width c.args.self.number c.args.other.number (narrow c.requires.lawful) small)
