use Rattle.std.proofs.Common.{◌≡◌, length, pos}
use Rattle.std.proofs.Math.IntN.{◌-ℤ◌}
use Rattle.dsv_algebra.specs.Falling.{power}
use Rattle.dsv_table.specs.Search.{ArePowers}
use Rattle.dsv_table.proofs.RootSizes.{bound_of, room}
use Rattle.dsv_table.proofs.roots.steps_of.Given as goal

abbrev pub invariant-loop-top : goal.invariant-loop-top
invariant-loop-top l = record {
  powers : ArePowers (pos 2) (length l.steps.items) l.steps.items;
  top : l.top ≡ power (pos 2) (length l.steps.items);
}

abbrev pub decreases-loop-top : goal.decreases-loop-top
decreases-loop-top l = room (bound_of l.coefficients -ℤ l.top)
