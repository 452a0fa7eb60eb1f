use Rattle.std.proofs.Common.{◌≡◌, ◌-◌, []}
use Rattle.dsv_word.specs.Words.{width}
use Rattle.dsv_unroll.specs.Beside.{inputs_with}
use Rattle.dsv_unroll.specs.Goals.{inputs_from}
use Rattle.dsv_unroll.proofs.inputs.input_terms.Given as goal

abbrev pub invariant-loop-i : goal.invariant-loop-i
invariant-loop-i l =
    inputs_from (width l.format) l.range.low l.range.high (l.samples - l.i) (inputs_with l.terms l.inputs)
    ≡ inputs_from (width l.format) l.range.low l.range.high l.samples (record { terms = l.fn.terms; ids = []; tests = [] })
