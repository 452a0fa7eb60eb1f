use Rattle.std.proofs.Common.{[], arith}
use Rattle.dsv_base.proofs.TakingLemmas.{writes_err}
use Rattle.dsv_base.proofs.ListWrites.{wrote_item, cut_item}
use Rattle.dsv_lines.specs.Texts.{line_text}
use Rattle.dsv_certfile.specs.Texts.{step_line}
use Rattle.std.proofs.lemmas.List.Elements.{All-more}
use Rattle.dsv_certfile.specs.Typed.{IsTypedStep}
use Rattle.dsv_certfile.proofs.output.put_steps.Goals as goal

pub returns-in_err-put_step-clause-text : goal.returns-in_err-put_step-clause-text
returns-in_err-put_step-clause-text g c =
    let item = c.step-item in
    let cut = c.in_err-put_step.ensures.text.cut in
    writes_err c.from_residual.ensures.0
    (cut_item (λ step. line_text (step_line step)) [] c.args.steps.now c.loop-step.step-index item.result (omega arith) c.loop-step.invariant.wrote (rw (← item.is) cut))

pub loop-step-preserved : goal.loop-step-preserved
loop-step-preserved g c =
    let item = c.step-item in
    let i = c.loop-step.step-index in
    record {
      wrote = wrote_item (λ step. line_text (step_line step)) [] c.args.steps.now i item.result (omega arith) c.loop-step.invariant.wrote (rw (← item.is) c.in_ok-put_step.ensures.text.whole);
      typed = All-more IsTypedStep c.args.steps.now i item.result (omega arith) c.loop-step.invariant.typed (rw (← item.is) c.in_ok-put_step.ensures.typed);
    }
