use Rattle.std.proofs.Common.{◌∙◌, rules, refl}
use Rattle.std.proofs.lemmas.Int.{to_z-of_z}
use mir.Syntax.{w64, w128}
use mir.Val.{SFits}
use Rattle.dsv_word.specs.Words.{width}
use Rattle.dsv_word.proofs.Meanings.{wrapped_meant, saturated_meant}
use Rattle.dsv_word.proofs.format.Format.fit.Goals as goal

pub returns-in-Wrap-clause-meaning : goal.returns-in-Wrap-clause-meaning
returns-in-Wrap-clause-meaning c =
    let word : SFits w64 c.wrap.result = search rules in
    let number : SFits w128 c.args.v = search rules in
    wrapped_meant c.args.self.now.overflow (width c.args.self.now) c.width.result c.args.v _ c.in-Wrap.is c.width.ensures.value c.width.ensures.least
    (to_z-of_z w64 c.wrap.result word ∙ (rw (to_z-of_z w128 c.args.v number) at c.wrap.ensures))

pub returns-in-Saturate-clause-meaning : goal.returns-in-Saturate-clause-meaning
returns-in-Saturate-clause-meaning c =
    let word : SFits w64 c.saturate.result = search rules in
    let low : SFits w64 c.lo.result = search rules in
    let high : SFits w64 c.hi.result = search rules in
    let number : SFits w128 c.args.v = search rules in
    saturated_meant c.args.self.now.overflow (width c.args.self.now) (width c.args.self.now) c.args.v _ _ _ c.in-Saturate.is refl
    (to_z-of_z w64 c.lo.result low ∙ c.lo.ensures) (to_z-of_z w64 c.hi.result high ∙ c.hi.ensures)
    (to_z-of_z w64 c.saturate.result word ∙ (rw (to_z-of_z w128 c.args.v number) at c.saturate.ensures))
