use Rattle.std.proofs.Common.{◌<◌, arith}
use Rattle.dsv_text.specs.Digits.{digits_value}
use Rattle.dsv_text.proofs.DigitLemmas.{value_step}
use Rattle.dsv_lines.proofs.numbers.value_within.Goals as goal

pub returns-in_err-checked_mul : goal.returns-in_err-checked_mul
returns-in_err-checked_mul c =
    let h : c.args.limit < digits_value 0 c.args.digits.now = omega (arith, value_step c.loop-byte.value c.loop-byte.byte-index c.args.digits.now c.loop-byte-test.true) in
    grind arith

pub returns-in_err-value : goal.returns-in_err-value
returns-in_err-value c =
    let h : c.args.limit < digits_value 0 c.args.digits.now = omega (arith, value_step c.loop-byte.value c.loop-byte.byte-index c.args.digits.now c.loop-byte-test.true) in
    grind arith

pub returns-then-value-limit : goal.returns-then-value-limit
returns-then-value-limit c =
    let h : c.args.limit < digits_value 0 c.args.digits.now = omega (arith, value_step c.loop-byte.value c.loop-byte.byte-index c.args.digits.now c.loop-byte-test.true) in
    grind arith
