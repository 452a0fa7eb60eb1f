use Rattle.std.proofs.Common.{◌≡◌, ℕ, ◌<◌, false}
use Rattle.dsv_forms.specs.Refusals.{negative_weight}
use Rattle.dsv_forms.proofs.squares.check_weak_weights.Given as goal

abbrev pub invariant-loop-k : goal.invariant-loop-k
invariant-loop-k l = (q : ℕ) → q < l.k → negative_weight l.squares q ≡ false
