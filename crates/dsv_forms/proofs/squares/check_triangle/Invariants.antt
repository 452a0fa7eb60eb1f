use Rattle.std.proofs.Common.{◌≡◌, ℕ, ◌<◌, false}
use Rattle.dsv_forms.specs.Refusals.{bad_row}
use Rattle.dsv_forms.proofs.squares.check_triangle.Given as goal

abbrev pub invariant-loop-k : goal.invariant-loop-k
invariant-loop-k l = (q : ℕ) → q < l.k → bad_row l.squares q ≡ false
