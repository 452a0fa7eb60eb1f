use Rattle.std.proofs.Common.{length, pos, vec_len}
use Rattle.dsv_table.specs.Search.{ArePowers, IsBracket}
use Rattle.dsv_table.proofs.roots.least_of.Given as goal

abbrev pub invariant-loop-step : goal.invariant-loop-step
invariant-loop-step l = record {
  powers : ArePowers (pos 2) (length l.left.items) l.left.items;
  bracket : IsBracket l.coefficients l.least (length l.left.items);
}

abbrev pub decreases-loop-step : goal.decreases-loop-step
decreases-loop-step l = vec_len l.left
