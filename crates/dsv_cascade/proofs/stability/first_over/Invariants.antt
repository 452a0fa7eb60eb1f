use Rattle.std.proofs.Common.{◌≤◌, take}
use Rattle.std.specs.Int.RustNames.{unsigned_abs}
use Rattle.std.specs.List.{All}
use Rattle.dsv_closed_forms.specs.ClosedForm.{second_limit}
use Rattle.dsv_cascade.proofs.stability.first_over.Given as goal

abbrev pub invariant-loop-i : goal.invariant-loop-i
invariant-loop-i l = All (λ d. unsigned_abs d ≤ second_limit) (take l.i l.c)
