use Rattle.std.proofs.Common.{[], arith}
use Rattle.dsv_base.proofs.TakingLemmas.{writes_err}
use Rattle.dsv_base.proofs.ListWrites.{wrote_item, cut_item}
use Rattle.dsv_lines.specs.Texts.{line_text}
use Rattle.dsv_certfile.specs.Texts.{coefficient_line}
use Rattle.dsv_certfile.proofs.writer.put_each_coefficient.Goals as goal

pub returns-in_err-put_coefficient : goal.returns-in_err-put_coefficient
returns-in_err-put_coefficient g c =
    let item = c.coefficient-item in
    writes_err c.from_residual.ensures.0
    (cut_item (λ z. line_text (coefficient_line z)) [] c.args.coefficients.now c.loop-coefficient.coefficient-index item.result (omega arith) c.loop-coefficient.invariant
    (rw (← item.is) c.in_err-put_coefficient.ensures.cut))

pub loop-coefficient-preserved : goal.loop-coefficient-preserved
loop-coefficient-preserved g c =
    let item = c.coefficient-item in
    wrote_item (λ z. line_text (coefficient_line z)) [] c.args.coefficients.now c.loop-coefficient.coefficient-index item.result (omega arith) c.loop-coefficient.invariant
    (rw (← item.is) c.in_ok-put_coefficient.ensures.whole)
