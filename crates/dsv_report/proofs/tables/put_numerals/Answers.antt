use Rattle.std.proofs.Common.{[], arith}
use Rattle.dsv_base.specs.Text.{spaced_text}
use Rattle.dsv_base.proofs.TakingLemmas.{writes_err}
use Rattle.dsv_base.proofs.ListWrites.{wrote_item, cut_item}
use Rattle.dsv_integer.specs.Numerals.{integer_text}
use Rattle.dsv_report.proofs.tables.put_numerals.Goals as goal

pub returns-in_err-put_numeral : goal.returns-in_err-put_numeral
returns-in_err-put_numeral g c =
    let item = c.number-item in
    writes_err c.from_residual.ensures.0
    (cut_item (spaced_text integer_text) [] c.args.numbers.now c.loop-number.number-index item.result (omega arith) c.loop-number.invariant
    (rw (← item.is) c.in_err-put_numeral.ensures.cut))

pub loop-number-preserved : goal.loop-number-preserved
loop-number-preserved g c =
    let item = c.number-item in
    wrote_item (spaced_text integer_text) [] c.args.numbers.now c.loop-number.number-index item.result (omega arith) c.loop-number.invariant
    (rw (← item.is) c.in_ok-put_numeral.ensures.whole)
