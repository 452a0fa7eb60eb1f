use Rattle.std.proofs.Common.{◌≡◌, take}
use Rattle.dsv_poly_table.proofs.table.integers_of.Given as goal

abbrev pub invariant-loop-coefficient : goal.invariant-loop-coefficient
invariant-loop-coefficient l = l.list ≡ take l.coefficient-index l.fn.poly
