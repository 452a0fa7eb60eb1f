use Rattle.std.proofs.Common.{arith, []}
use Rattle.dsv_word.specs.Words.{width}
use Rattle.dsv_unroll.specs.Beside.{inputs_with}
use Rattle.dsv_unroll.specs.Goals.{InputTerms, inputs_from}
use Rattle.dsv_unroll.proofs.SampleSteps.{input_step}
use Rattle.dsv_unroll.proofs.inputs.input_terms.Goals as goal

pub loop-i-preserved : goal.loop-i-preserved
loop-i-preserved c =
    let l = c.loop-i in
    let n = width c.args.format.now in
    let low = c.args.range.now.low in
    let high = c.args.range.now.high in
    let s = inputs_with l.terms l.inputs in
    let now = inputs_with c.put_input.new.terms c.put_input.new.inputs in
    let start : InputTerms = inputs_from n low high c.args.samples (record { terms = c.args.terms.now; ids = []; tests = [] }) in
    input_step n low high c.args.samples l.i s now start (omega arith) l.invariant c.in_ok-put_input.ensures
