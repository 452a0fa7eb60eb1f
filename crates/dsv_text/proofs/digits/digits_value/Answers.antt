use Rattle.std.proofs.Common.{arith}
use Rattle.dsv_text.proofs.DigitLemmas.{value_step}
use Rattle.dsv_text.proofs.digits.digits_value.Goals as goal

pub overflow_mul-value : goal.overflow_mul-value
overflow_mul-value c = omega (arith, value_step c.loop-byte.value c.loop-byte.byte-index c.args.digits.now c.loop-byte-test.true)

pub overflow_add-value : goal.overflow_add-value
overflow_add-value c = omega (arith, value_step c.loop-byte.value c.loop-byte.byte-index c.args.digits.now c.loop-byte-test.true)
