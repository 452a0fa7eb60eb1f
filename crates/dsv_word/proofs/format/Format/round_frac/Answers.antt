use Rattle.std.proofs.Common.{rules}
use Rattle.std.proofs.lemmas.Int.{to_z-of_z}
use mir.Syntax.{w128}
use mir.Val.{SFits}
use Rattle.dsv_names.specs.declared.rounding.Rounding.TheVariants as rounding
use Rattle.dsv_word.specs.Quotients.{rounded_quotient}
use Rattle.dsv_word.proofs.Floors.{nearest_same}
use Rattle.dsv_word.proofs.Meanings.{word_is, rounded_meant}
use Rattle.dsv_word.proofs.format.Format.round_frac.Goals as goal

pub returns-in_ok-in_units-in-Nearest-clause-value : goal.returns-in_ok-in_units-in-Nearest-clause-value
returns-in_ok-in_units-in-Nearest-clause-value c =
    let fits : SFits w128 c.nearest_to.result = search rules in
    rw (to_z-of_z w128 c.nearest_to.result fits, c.in-Nearest.is)
    (word_is (rounded_quotient rounding.Nearest) c.args.self.now.frac_bits c.args.q.now c.in_ok-in_units-in-Nearest.field-0 _ nearest_same c.in_ok-in_units-in-Nearest.ensures.positive c.in_ok-in_units-in-Nearest.ensures.value c.nearest_to.ensures)

pub returns-in_ok-in_units-in-Nearest-clause-meaning : goal.returns-in_ok-in_units-in-Nearest-clause-meaning
returns-in_ok-in_units-in-Nearest-clause-meaning c =
    rounded_meant c.args.self.now.rounding c.args.self.now.frac_bits c.args.q.now _ c.in_ok-in_units-in-Nearest.ensures.positive (returns-in_ok-in_units-in-Nearest-clause-value c)
