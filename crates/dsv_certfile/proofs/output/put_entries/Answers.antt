use Rattle.std.proofs.Common.{[], arith}
use Rattle.dsv_base.specs.Text.{spaced_text}
use Rattle.dsv_base.proofs.TakingLemmas.{writes_err}
use Rattle.dsv_base.proofs.ListWrites.{cut_item}
use Rattle.dsv_certfile.proofs.output.put_entries.Goals as goal

pub returns-in_err-put_spaced : goal.returns-in_err-put_spaced
returns-in_err-put_spaced g c =
    let item = c.number-item in
    let cut = c.in_err-put_spaced.ensures.cut in
    writes_err c.from_residual.ensures.0
    (cut_item (spaced_text g.I.Integer.text) [] c.args.numbers.now c.loop-number.number-index item.result (omega arith) c.loop-number.invariant (rw (← item.is) cut))
