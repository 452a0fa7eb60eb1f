use Rattle.std.proofs.Common.{◌≡◌, map, take}
use Rattle.std.proofs.Math.IntN.{neg_ℤ, ◌*ℤ◌}
use Rattle.dsv_forms.specs.Padded.{matrix_with}
use Rattle.dsv_closed_forms.proofs.root.negative_square.Given as goal

abbrev pub invariant-loop-i : goal.invariant-loop-i
invariant-loop-i l = l.rows ≡ matrix_with (map (λ a. map (λ b. neg_ℤ (a *ℤ b)) l.q) (take l.i l.q))
