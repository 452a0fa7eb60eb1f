use Rattle.std.proofs.Common.{◌∙◌, rules, ap}
use Rattle.std.proofs.lemmas.Int.{to_z-of_z}
use mir.Syntax.{w32}
use mir.Val.{SFits}
use Rattle.dsv_fraction.specs.Decimal.{or_too_wide}
use Rattle.dsv_fraction.proofs.Decimals.{read_is, body_is, err_is}
use Rattle.dsv_fraction.proofs.fraction.Frac.of_decimal.Goals as goal

pub returns-in_err-value_of : goal.returns-in_err-value_of
returns-in_err-value_of c =
    let fits : SFits w32 c.in-Some.exponent = search rules in
    err_is c.from_residual.result c.from_residual.ensures.1
    ∙ ap or_too_wide c.in_err-value_of.ensures
    ∙ read_is c.args.text.now c.rest-body.result.now c.rest.result.now c.leading_digits.result.now c.digits_after_point.result.now c.has_byte.result c.in-Some.exponent _
    c.if-not-is_number.ensures (body_is _ _ _ _ c.sign_len.ensures.value c.rest-body.ensures) (body_is _ _ _ _ c.whole_len.ensures.value c.rest.ensures)
    c.leading_digits.ensures c.digits_after_point.ensures c.if-leading_digits-digits_after_point-gt-MOST_DIGITS.false c.in-Some.ensures.value
    (to_z-of_z w32 c.in-Some.exponent fits) c.has_byte.ensures

pub returns : goal.returns
returns c =
    let fits : SFits w32 c.in-Some.exponent = search rules in
    ap or_too_wide c.in_ok-value_of.ensures
    ∙ read_is c.args.text.now c.rest-body.result.now c.rest.result.now c.leading_digits.result.now c.digits_after_point.result.now c.has_byte.result c.in-Some.exponent _
    c.if-not-is_number.ensures (body_is _ _ _ _ c.sign_len.ensures.value c.rest-body.ensures) (body_is _ _ _ _ c.whole_len.ensures.value c.rest.ensures)
    c.leading_digits.ensures c.digits_after_point.ensures c.if-leading_digits-digits_after_point-gt-MOST_DIGITS.false c.in-Some.ensures.value
    (to_z-of_z w32 c.in-Some.exponent fits) c.has_byte.ensures
