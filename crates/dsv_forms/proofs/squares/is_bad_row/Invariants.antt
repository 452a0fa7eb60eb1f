use Rattle.std.proofs.Common.{◌≡◌, ℕ, ◌<◌, false, not, pos}
use Rattle.std.specs.Ordering.{int_eq}
use Rattle.dsv_forms.specs.Refusals.{rows_of}
use Rattle.dsv_forms.proofs.squares.is_bad_row.Given as goal

abbrev pub invariant-loop-j : goal.invariant-loop-j
invariant-loop-j l = (q : ℕ) → q < l.j → not (int_eq (rows_of l.squares l.k q) (pos 0)) ≡ false
