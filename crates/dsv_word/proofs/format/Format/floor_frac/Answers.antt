use Rattle.std.proofs.Common.{rules}
use Rattle.std.proofs.lemmas.Int.{to_z-of_z}
use mir.Syntax.{w128}
use mir.Val.{SFits}
use Rattle.dsv_algebra.specs.Floor.{floor_of}
use Rattle.dsv_word.proofs.Floors.{floored_same}
use Rattle.dsv_word.proofs.Meanings.{word_is, floor_meant}
use Rattle.dsv_word.proofs.format.Format.floor_frac.Goals as goal

pub returns-clause-value : goal.returns-clause-value
returns-clause-value c =
    let fits : SFits w128 c.floor_of.result = search rules in
    rw (to_z-of_z w128 c.floor_of.result fits)
    (word_is floor_of c.args.self.now.frac_bits c.args.q.now c.in_ok-in_units.field-0 _ floored_same c.in_ok-in_units.ensures.positive c.in_ok-in_units.ensures.value c.floor_of.ensures)

pub returns-clause-meaning : goal.returns-clause-meaning
returns-clause-meaning c = floor_meant c.args.self.now.frac_bits c.args.q.now _ c.in_ok-in_units.ensures.positive (returns-clause-value c)
