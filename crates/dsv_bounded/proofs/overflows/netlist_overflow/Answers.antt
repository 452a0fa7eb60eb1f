use Rattle.std.proofs.lemmas.Result.{IfOk-weaker}
use Rattle.dsv_hints.specs.Searches.{IfNever}
use Rattle.dsv_hints.specs.declared.search.Searched.{Searched}
use Rattle.dsv_meaning.specs.declared.replays.Trace.{Trace}
use Rattle.dsv_bounded.specs.Questions.{NoneHave, input_widths, DoBreak}
use Rattle.dsv_bounded.proofs.Questions.{breaks_mean, never_as}
use Rattle.dsv_netlist.specs.Systems.{runs_of}
use Rattle.dsv_bounded.specs.Verdicts.{BreaksWithinBy}
use Rattle.dsv_bounded.proofs.overflows.netlist_overflow.Goals as goal

pub returns-clause-never : goal.returns-clause-never
returns-clause-never c =
    let s = c.args.subject.now in
    let net = s.net.now in
    let samples = c.args.samples in
    let widths = input_widths net samples in
    let P = DoBreak net s.low s.high in
    let W : Type 0 = BreaksWithinBy (runs_of net) s.low s.high samples in
    IfOk-weaker c.answer.result (IfNever (λ log. NoneHave widths P)) (IfNever (λ log. W → ⊥))
    (λ (r : Searched Trace). never_as W widths P r (breaks_mean net s.low s.high samples s.low_word s.high_word)) c.answer.ensures.never
