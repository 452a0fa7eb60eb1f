use Rattle.std.proofs.Common.{[], take, arith}
use Rattle.dsv_base.proofs.TakingLemmas.{writes_err}
use Rattle.dsv_base.proofs.ListWrites.{wrote_item, cut_item}
use Rattle.dsv_lines.specs.Texts.{line_text}
use Rattle.dsv_certfile.specs.Texts.{numbers_line}
use Rattle.std.proofs.lemmas.List.Elements.{All-more}
use Rattle.dsv_certfile.specs.Typed.{IsTypedRow}
use Rattle.dsv_certfile.proofs.output.put_each_row.Goals as goal

pub returns-in_err-put_row-clause-text : goal.returns-in_err-put_row-clause-text
returns-in_err-put_row-clause-text g c =
    let a = c.args in
    let cut = c.in_err-put_row.ensures.text.cut in
    writes_err c.from_residual.ensures.0
    (cut_item (λ row. line_text (numbers_line a.word (take a.d row))) [] a.rows.now c.loop-row.row-index [] (omega arith) c.loop-row.invariant.wrote cut)

pub loop-row-preserved : goal.loop-row-preserved
loop-row-preserved g c =
    let a = c.args in
    let i = c.loop-row.row-index in
    record {
      wrote = wrote_item (λ row. line_text (numbers_line a.word (take a.d row))) [] a.rows.now i [] (omega arith) c.loop-row.invariant.wrote c.in_ok-put_row.ensures.text.whole;
      typed = All-more IsTypedRow a.rows.now i [] (omega arith) c.loop-row.invariant.typed c.in_ok-put_row.ensures.typed;
    }
