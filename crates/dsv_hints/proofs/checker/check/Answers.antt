use Rattle.std.proofs.Common.{ap, sym, ◌∙◌}
use Rattle.dsv_hints.specs.CheckerView.{CheckerView}
use Rattle.dsv_hints.proofs.checker.check.Goals as goal

pub returns-then-checker-clause-sound : goal.returns-then-checker-clause-sound
returns-then-checker-clause-sound c =
    λ accepted. c.loop-i.invariant.sound.ended (ap (λ (s : CheckerView). s.carried.ended) (sym c.checker-2.view_is) ∙ c.if-checker.true)
