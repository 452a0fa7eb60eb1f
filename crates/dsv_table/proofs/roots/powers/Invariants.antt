use Rattle.std.proofs.Common.{◌≡◌}
use Rattle.dsv_algebra.specs.Falling.{power}
use Rattle.dsv_table.specs.Search.{ArePowers}
use Rattle.dsv_table.proofs.roots.powers.Given as goal

abbrev pub invariant-loop-place : goal.invariant-loop-place
invariant-loop-place l = record {
  powers : ArePowers l.base l._place l.list.items;
  next : l.power ≡ power l.base l._place;
}
