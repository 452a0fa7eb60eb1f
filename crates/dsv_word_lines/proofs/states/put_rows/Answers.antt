use Rattle.std.proofs.Common.{[], arith, codes}
use Rattle.dsv_base.proofs.TakingLemmas.{writes_cut, append_nil}
use Rattle.dsv_base.proofs.ListWrites.{wrote_item, cut_item}
use Rattle.dsv_word_lines.specs.WordLines.{row_lines, words_line}
use Rattle.dsv_word_lines.proofs.states.put_rows.Goals as goal

pub returns-in_err-put_line : goal.returns-in_err-put_line
returns-in_err-put_line g c =
    let rows = c.args.rows.now in
    let cut = rw (c.as_slice.ensures, c.row-item.is) at c.in_err-put_line.ensures.cut in
    let h = cut_item (words_line (codes "a")) [] rows c.loop-row.row-index c.row-item.result (omega arith) c.loop-row.invariant cut in
    rw (append_nil (row_lines rows)) (writes_cut [] c.from_residual.ensures.0 h)

pub loop-row-preserved : goal.loop-row-preserved
loop-row-preserved g c =
    let wrote = rw (c.as_slice.ensures, c.row-item.is) at c.in_ok-put_line.ensures.whole in
    wrote_item (words_line (codes "a")) [] c.args.rows.now c.loop-row.row-index c.row-item.result (omega arith) c.loop-row.invariant wrote
