use Rattle.std.proofs.Common.{◌≡◌, ◌∙◌, arith, length, ◌-◌}
use Rattle.dsv_cnf.specs.Formula.{assignment_of}
use Rattle.dsv_blast.specs.Words.{bit}
use Rattle.dsv_blast.proofs.ModelSteps.{number-next, number-narrow, below-two, byte-is}
use Rattle.dsv_blast.proofs.model_values.number.Goals as goal

pub overflow_mul-number : goal.overflow_mul-number
overflow_mul-number c =
    let n = number-narrow (assignment_of c.args.model.now) c.args.bits.now (length c.args.bits.now - c.loop-i.i) (omega (arith, c.loop-i-test.true)) c.requires.narrow in
    omega (arith, n, c.loop-i.invariant)

pub overflow_add-number : goal.overflow_add-number
overflow_add-number c =
    let n = number-narrow (assignment_of c.args.model.now) c.args.bits.now (length c.args.bits.now - c.loop-i.i) (omega (arith, c.loop-i-test.true)) c.requires.narrow in
    let one : c.from.result ≡ bit c.is_true-bit.result = c.from.ensures ∙ byte-is c.is_true-bit.result in
    omega (arith, n, c.loop-i.invariant, below-two c.from.result c.is_true-bit.result one)

pub loop-i-preserved : goal.loop-i-preserved
loop-i-preserved c =
    let one : c.from.result ≡ bit c.is_true-bit.result = c.from.ensures ∙ byte-is c.is_true-bit.result in
    number-next (assignment_of c.args.model.now) c.args.bits.now c.loop-i.i c.from.result c.loop-i.number c.is_true-bit.result c.index-bits-bits.result c.loop-i-test.true c.index-bits-bits.is c.is_true-bit.ensures one c.loop-i.invariant
