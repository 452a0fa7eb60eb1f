use Rattle.std.proofs.Common.{◌≡◌, ◌≤◌, ◌^◌}
use Rattle.dsv_state_space.specs.StateView.{states}
use Rattle.dsv_state_space.proofs.search.state_offer.Given as goal

abbrev pub invariant-loop-look : goal.invariant-loop-look
invariant-loop-look l = record {
  places : l.form.d ≡ states l.system;
  less : l.steps ≤ 2 ^ l.look;
}
