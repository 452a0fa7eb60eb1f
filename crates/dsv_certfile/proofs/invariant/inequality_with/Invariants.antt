use Rattle.std.proofs.Common.{◌≡◌, take}
use Rattle.dsv_certfile.proofs.invariant.inequality_with.Given as goal

abbrev pub invariant-loop-i : goal.invariant-loop-i
invariant-loop-i l = l.coefficients.items ≡ take l.i l.numbers
