use Rattle.std.proofs.Common.{[], take, arith}
use Rattle.dsv_base.proofs.TakingLemmas.{writes_cut, append_nil}
use Rattle.dsv_base.proofs.ListWrites.{wrote_item, cut_item}
use Rattle.dsv_report.specs.Forms.{numbers_line, rows_text}
use Rattle.dsv_report.proofs.forms.put_rows.Goals as goal

pub returns-in_err-put_line : goal.returns-in_err-put_line
returns-in_err-put_line g c =
    let form = c.args.form.now in
    let word = c.args.word.now in
    let h = cut_item (λ row. numbers_line word (take form.d row)) [] (take form.d form.rows) c.loop-row.row-index [] (omega arith) c.loop-row.invariant c.in_err-put_line.ensures.cut in
    rw (append_nil (rows_text word form)) (writes_cut [] c.from_residual.ensures.0 h)

pub loop-row-preserved : goal.loop-row-preserved
loop-row-preserved g c =
    let form = c.args.form.now in
    let word = c.args.word.now in
    wrote_item (λ row. numbers_line word (take form.d row)) [] (take form.d form.rows) c.loop-row.row-index [] (omega arith) c.loop-row.invariant c.in_ok-put_line.ensures.whole
