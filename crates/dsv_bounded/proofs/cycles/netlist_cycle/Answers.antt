use Rattle.std.proofs.Common.{ℕ, List}
use Rattle.std.proofs.lemmas.Result.{IfOk-weaker}
use Rattle.dsv_hints.specs.Searches.{IfNever}
use Rattle.dsv_hints.specs.declared.search.Searched.{Searched}
use Rattle.dsv_meaning.specs.declared.replays.Cycle.{Cycle}
use Rattle.dsv_bounded.specs.Questions.{NoneHave, input_widths, free_registers, DoCycle}
use Rattle.dsv_bounded.proofs.Questions.{cycles_mean, never_as}
use Rattle.dsv_netlist.specs.Systems.{runs_of}
use Rattle.dsv_bounded.specs.Verdicts.{CyclesWithinBy}
use Rattle.dsv_bounded.proofs.cycles.netlist_cycle.Goals as goal

pub returns-clause-never : goal.returns-clause-never
returns-clause-never c =
    let net = c.args.subject.now.net.now in
    let periods = c.args.periods in
    let widths = input_widths net (free_registers net) in
    let P : List ℕ → Type 0 = DoCycle net periods in
    let W : Type 0 = CyclesWithinBy (runs_of net) periods in
    IfOk-weaker c.answer.result (IfNever (λ log. NoneHave widths P)) (IfNever (λ log. W → ⊥))
    (λ (r : Searched Cycle). never_as W widths P r (cycles_mean net periods c.len-count.ensures.netlist.feed_forward)) c.answer.ensures.never
