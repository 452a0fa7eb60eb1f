use Rattle.std.proofs.Common.{◌≡◌}
use Rattle.dsv_state_space.specs.StateView.{states}
use Rattle.dsv_state_space.proofs.search.form_after.Given as goal

abbrev pub invariant-loop : goal.invariant-loop
invariant-loop l = l.form.d ≡ states l.system
