use Rattle.std.proofs.Common.{◌≡◌, map, take}
use Rattle.std.proofs.Math.IntN.{neg_ℤ, ◌*ℤ◌}
use Rattle.dsv_forms.specs.Padded.{row_of}
use Rattle.dsv_closed_forms.proofs.root.negative_products.Given as goal

abbrev pub invariant-loop-i : goal.invariant-loop-i
invariant-loop-i l = l.row ≡ row_of (map (λ b. neg_ℤ (l.a *ℤ b)) (take l.i l.q))
