use Rattle.std.proofs.Common.{sym, ap, ◌∙◌}
use Rattle.dsv_fraction.specs.Decimal.{decimal_of}
use Rattle.dsv_reader.specs.Numbers.{is_octal}
use Rattle.dsv_reader.proofs.NumberLemmas.{octal_time, plain_time}
use Rattle.dsv_reader.proofs.numbers.time_at.Goals as goal

pub returns-then-is_octal-clause-value : goal.returns-then-is_octal-clause-value
returns-then-is_octal-clause-value c =
    let octal = ap is_octal (sym c.text_at-text.ensures) ∙ sym c.is_octal.ensures ∙ c.if-is_octal.true in
    rw c.no_number.ensures (sym (octal_time c.args.bytes.now c.args.token octal))

pub returns-clause-value : goal.returns-clause-value
returns-clause-value c =
    let plain = ap is_octal (sym c.text_at-text.ensures) ∙ sym c.is_octal.ensures ∙ c.if-is_octal.false in
    let spelled = c.of_decimal.ensures ∙ ap decimal_of c.text_at-text.ensures in
    c.by_time.ensures.value ∙ plain_time c.args.bytes.now c.args.token c.of_decimal.result plain spelled
