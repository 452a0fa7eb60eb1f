use Rattle.std.proofs.Common.{sym, ap, ◌∙◌}
use Rattle.dsv_fraction.specs.Decimal.{decimal_of}
use Rattle.dsv_reader.specs.Numbers.{is_octal}
use Rattle.dsv_reader.proofs.NumberLemmas.{octal_decimal, plain_decimal}
use Rattle.dsv_reader.proofs.numbers.decimal_at.Goals as goal

pub returns-then-is_octal : goal.returns-then-is_octal
returns-then-is_octal c =
    let octal = ap is_octal (sym c.text_at-text.ensures) ∙ sym c.is_octal.ensures ∙ c.if-is_octal.true in
    rw c.no_number.ensures (sym (octal_decimal c.args.bytes.now c.args.token octal))

pub returns : goal.returns
returns c =
    let plain = ap is_octal (sym c.text_at-text.ensures) ∙ sym c.is_octal.ensures ∙ c.if-is_octal.false in
    let spelled = c.of_decimal.ensures ∙ ap decimal_of c.text_at-text.ensures in
    c.by_decimal.ensures ∙ plain_decimal c.args.bytes.now c.args.token c.of_decimal.result plain spelled
