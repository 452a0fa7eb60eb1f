use Rattle.std.proofs.Common.{[], arith}
use Rattle.dsv_base.specs.Text.{spaced_text}
use Rattle.dsv_base.proofs.TakingLemmas.{writes_err}
use Rattle.dsv_base.proofs.ListWrites.{wrote_item, cut_item}
use Rattle.std.proofs.lemmas.List.Elements.{All-more}
use Rattle.dsv_certfile.specs.Lawful.{IsLiteral}
use Rattle.dsv_certfile.proofs.output.put_clause.Goals as goal
use Rattle.dsv_cnf.specs.Texts.{literal_piece}

pub returns-in_err-put_literal-clause-text : goal.returns-in_err-put_literal-clause-text
returns-in_err-put_literal-clause-text g c =
    let item = c.literal-item in
    let cut = c.in_err-put_literal.ensures.text.cut in
    writes_err c.from_residual.ensures.0
    (cut_item (spaced_text literal_piece) [] c.args.literals.now c.loop-literal.literal-index item.result (omega arith) c.loop-literal.invariant.wrote (rw (← item.is) cut))

pub loop-literal-preserved : goal.loop-literal-preserved
loop-literal-preserved g c =
    let item = c.literal-item in
    let i = c.loop-literal.literal-index in
    record {
      wrote = wrote_item (spaced_text literal_piece) [] c.args.literals.now i item.result (omega arith) c.loop-literal.invariant.wrote (rw (← item.is) c.in_ok-put_literal.ensures.text.whole);
      typed = All-more IsLiteral c.args.literals.now i item.result (omega arith) c.loop-literal.invariant.typed (rw (← item.is) c.in_ok-put_literal.ensures.typed);
    }
