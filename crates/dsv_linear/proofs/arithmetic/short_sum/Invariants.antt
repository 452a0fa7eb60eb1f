use Rattle.std.proofs.Common.{◌≡◌}
use Rattle.std.specs.Prelude.{Some, ◌+ℤ◌}
use Rattle.dsv_netlist.specs.Nodes.{at}
use Rattle.dsv_linear.specs.Forms.{entries}
use Rattle.dsv_linear.proofs.arithmetic.short_sum.Given as goal

abbrev pub invariant-loop-j : goal.invariant-loop-j
invariant-loop-j l = entries l.j (λ j. at l.left j +ℤ at l.right j) ≡ Some l.list
