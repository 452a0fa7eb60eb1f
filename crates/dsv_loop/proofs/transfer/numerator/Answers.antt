use Rattle.std.proofs.Common.{◌≡◌, ℤ, ◌*ℤ◌, IfOk, subst, ap, ◌∙◌, rules}
use Rattle.std.proofs.lemmas.Int.{to_z-of_z}
use mir.Syntax.{w128}
use mir.Val.{SFits}
use Rattle.dsv_loop.proofs.Multiples.{number_positive, factor_is}
use Rattle.dsv_loop.proofs.transfer.numerator.Goals as goal

pub exact_quotient-requires-clause-positive : goal.exact_quotient-requires-clause-positive
exact_quotient-requires-clause-positive c =
    number_positive c.in_ok-denominator.field-0 c.args.fraction.now.den c.in_ok-denominator.ensures.value c.denominator.ensures.positive

pub exact_quotient-requires-clause-divides : goal.exact_quotient-requires-clause-divides
exact_quotient-requires-clause-divides c = rw c.in_ok-denominator.ensures.value c.requires.divides

pub returns : goal.returns
returns c =
    let n = c.args.fraction.now.num in
    let fits : SFits w128 c.num.result = search rules in
    let num : c.in_ok-from_i128.field-0 ≡ n = c.in_ok-from_i128.ensures ∙ to_z-of_z w128 c.num.result fits ∙ c.num.ensures in
    let factor = factor_is c.args.common.now c.in_ok-denominator.field-0 c.in_ok-factor.factor c.args.fraction.now.den c.requires.positive c.in_ok-denominator.ensures.value c.in_ok-factor.ensures in
    let P : ℤ → Type 0 = λ z. IfOk c.times-2.result (λ x. x ≡ z) in
    subst P (ap (λ z. z *ℤ c.in_ok-factor.factor) num ∙ ap (λ z. n *ℤ z) factor) c.times-2.ensures
