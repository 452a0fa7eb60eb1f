use Rattle.std.proofs.Common.{ap, ◌+◌, ◌∙◌}
use Rattle.dsv_term.proofs.Wrapping.{narrow, mod_twice}
use Rattle.dsv_term.proofs.word.Word.sum.Goals as goal

pub returns : goal.returns
returns c =
    ap (λ n. record { width = c.args.self.width; number = n }) (c.low_bits.ensures ∙ mod_twice 128 c.args.self.width (c.args.self.number + c.args.other.number) (narrow c.requires.lawful))
