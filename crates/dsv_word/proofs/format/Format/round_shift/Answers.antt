use Rattle.std.proofs.Common.{rules}
use Rattle.std.proofs.lemmas.Int.{to_z-of_z}
use mir.Syntax.{w128}
use mir.Val.{SFits}
use Rattle.dsv_word.proofs.Meanings.{shifted_is}
use Rattle.dsv_word.proofs.format.Format.round_shift.Goals as goal

pub returns-clause-meaning : goal.returns-clause-meaning
returns-clause-meaning c =
    let whole : SFits w128 c.shift.result = search rules in
    let number : SFits w128 c.args.v = search rules in
    rw (to_z-of_z w128 c.shift.result whole, c.shift.ensures, to_z-of_z w128 c.args.v number)
    (shifted_is c.args.self.now.rounding c.args.self.now.frac_bits c.args.v)
