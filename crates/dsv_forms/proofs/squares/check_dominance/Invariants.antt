use Rattle.std.proofs.Common.{◌≡◌, ℕ, ◌<◌, false}
use Rattle.dsv_forms.specs.Refusals.{not_dominant}
use Rattle.dsv_forms.proofs.squares.check_dominance.Given as goal

abbrev pub invariant-loop-i : goal.invariant-loop-i
invariant-loop-i l = (q : ℕ) → q < l.i → not_dominant l.d l.squares q ≡ false
