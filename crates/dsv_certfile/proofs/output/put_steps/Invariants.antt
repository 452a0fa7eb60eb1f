use Rattle.std.proofs.Common.{take}
use Rattle.std.specs.List.{flat_map}
use Rattle.dsv_base.specs.Taking.{Wrote}
use Rattle.dsv_lines.specs.Texts.{line_text}
use Rattle.dsv_certfile.specs.Texts.{step_line}
use Rattle.dsv_certfile.specs.Typed.{IsTypedLog}
use Rattle.dsv_certfile.proofs.output.put_steps.Given as goal

abbrev pub invariant-loop-step : goal.invariant-loop-step
invariant-loop-step g l =
    record {
      wrote : Wrote (g.K.Sink.seen l.fn.sink) (g.K.Sink.seen l.sink) (flat_map (λ step. line_text (step_line step)) (take l.step-index l.steps));
      typed : IsTypedLog (take l.step-index l.steps);
    }
