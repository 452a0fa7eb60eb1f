use Rattle.std.proofs.Common.{sym, arith}
use Rattle.dsv_text.specs.Digits.{digits_value, leading_digits}
use Rattle.dsv_fraction.specs.Decimal.{digits_after_point}
use Rattle.dsv_text.proofs.DigitLemmas.{value_grows}
use Rattle.dsv_text.proofs.DigitLemmas.{value_append}
use Rattle.dsv_fraction.proofs.Digits.{all_below}
use Rattle.dsv_fraction.proofs.decimal.digits_of.Goals as goal

pub digits_value-requires : goal.digits_value-requires
digits_value-requires c =
    rw c.leading_digits.ensures (omega (arith, all_below c.args.body.now c.requires, value_grows (digits_value 0 (leading_digits c.args.body.now)) (digits_after_point c.args.body.now)))

pub digits_value-requires-2 : goal.digits_value-requires-2
digits_value-requires-2 c =
    rw (c.digits_value.ensures, c.leading_digits.ensures, c.digits_after_point.ensures) (omega (arith, all_below c.args.body.now c.requires))

pub returns-clause-value : goal.returns-clause-value
returns-clause-value c =
    rw (c.digits_value-2.ensures, c.digits_value.ensures, c.leading_digits.ensures, c.digits_after_point.ensures)
    (sym (value_append 0 (leading_digits c.args.body.now) (digits_after_point c.args.body.now)))
