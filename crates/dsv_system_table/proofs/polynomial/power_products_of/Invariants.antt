use Rattle.std.proofs.Common.{◌≡◌}
use Rattle.dsv_algebra.specs.Falling.{power}
use Rattle.dsv_system_table.specs.Rows.{AreEntries, power_products}
use Rattle.dsv_system_table.proofs.polynomial.power_products_of.Given as goal

abbrev pub invariant-loop-i : goal.invariant-loop-i
invariant-loop-i l = record {
  entries : AreEntries l.i (power_products l.q l.row) l.list.items;
  next : l.power ≡ power l.q l.i;
}
