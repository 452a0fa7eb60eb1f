use Rattle.std.proofs.Common.{[], arith}
use Rattle.dsv_base.proofs.TakingLemmas.{writes_err}
use Rattle.dsv_base.proofs.ListWrites.{wrote_item, cut_item}
use Rattle.dsv_lines.specs.Texts.{line_text}
use Rattle.dsv_certfile.specs.Texts.{inequality_line}
use Rattle.std.proofs.lemmas.List.Elements.{All-more}
use Rattle.dsv_certfile.specs.Typed.{IsTypedInequality}
use Rattle.dsv_certfile.proofs.writer.put_each_inequality.Goals as goal

pub returns-in_err-put_inequality-clause-text : goal.returns-in_err-put_inequality-clause-text
returns-in_err-put_inequality-clause-text g c =
    let item = c.inequality-item in
    let cut = c.in_err-put_inequality.ensures.text.cut in
    writes_err c.from_residual.ensures.0
    (cut_item (λ i. line_text (inequality_line i)) [] c.args.inequalities.now c.loop-inequality.inequality-index item.result (omega arith) c.loop-inequality.invariant.wrote (rw (← item.is) cut))

pub loop-inequality-preserved : goal.loop-inequality-preserved
loop-inequality-preserved g c =
    let item = c.inequality-item in
    let i = c.loop-inequality.inequality-index in
    record {
      wrote = wrote_item (λ i. line_text (inequality_line i)) [] c.args.inequalities.now i item.result (omega arith) c.loop-inequality.invariant.wrote (rw (← item.is) c.in_ok-put_inequality.ensures.text.whole);
      typed = All-more IsTypedInequality c.args.inequalities.now i item.result (omega arith) c.loop-inequality.invariant.typed (rw (← item.is) c.in_ok-put_inequality.ensures.typed);
    }
