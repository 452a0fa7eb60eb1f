use Rattle.std.proofs.Common.{◌≡◌}
use Rattle.std.specs.Prelude.{Some, pos}
use Rattle.std.specs.Int.{int_rem_euclid}
use Rattle.dsv_netlist.specs.Nodes.{at}
use Rattle.dsv_linear.specs.Forms.{entries}
use Rattle.dsv_linear.proofs.division.rests.Given as goal

abbrev pub invariant-loop-j : goal.invariant-loop-j
invariant-loop-j l = entries l.j (λ j. int_rem_euclid (at l.form j) (pos l.d)) ≡ Some l.list
