use Rattle.std.proofs.Common.{◌≡◌}
use Rattle.std.specs.Prelude.{Some}
use Rattle.dsv_algebra.specs.Floor.{floor_of}
use Rattle.dsv_netlist.specs.Nodes.{at}
use Rattle.dsv_linear.specs.Forms.{entries}
use Rattle.dsv_linear.proofs.division.quotients.Given as goal

abbrev pub invariant-loop-j : goal.invariant-loop-j
invariant-loop-j l = entries l.j (λ j. floor_of (at l.form j) l.d) ≡ Some l.list
