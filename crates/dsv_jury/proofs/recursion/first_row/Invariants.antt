use Rattle.std.proofs.Common.{◌≡◌, take}
use Rattle.dsv_jury.proofs.recursion.first_row.Given as goal

abbrev pub invariant-loop-coefficient : goal.invariant-loop-coefficient
invariant-loop-coefficient l = l.row.items ≡ take l.coefficient-index l.poly
