use Rattle.std.proofs.Common.{◌≡◌, ◌∙◌, ◌++◌, ap, sym, subst, List}
use Rattle.std.proofs.Math.IntN.{ℤ}
use Rattle.dsv_word.specs.declared.format.Format.{Format}
use Rattle.dsv_system.specs.Cycles.{Cycles}
use Rattle.dsv_system.specs.Systems.{zeros}
use Rattle.dsv_unroll.specs.Words.{cycle_start, spelled_words}
use Rattle.dsv_bounded.proofs.CycleLemmas.{is_start}
use Rattle.dsv_netlist.specs.Systems.{runs_of}
use Rattle.dsv_bounded.proofs.cycles.CycleQuestionQuestion.replay.Goals as goal

pub replayed_cycle-requires : goal.replayed_cycle-requires
replayed_cycle-requires c =
    let net = c.args.self.now.subject.now.net.now in
    let values = c.args.values.now in
    let start = c.in_ok-start.start in
    let quiet = c.in_ok-quiet.ensures ∙ ap zeros c.feed_forward.ensures in
    let s : start ≡ cycle_start net values = c.in_ok-start.ensures ∙ (ap (λ (xs : List ℤ). xs ++ spelled_words c.format.result values) quiet
    ∙ ap (λ (f : Format). zeros net.feed_forward ++ spelled_words f values) c.format.ensures) in
    let given = c.requires.are in
    is_start net start given.0 (subst (λ (xs : List ℤ). Cycles (runs_of net) xs given.0) (sym s) given.3)
