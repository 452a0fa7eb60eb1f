use Rattle.std.proofs.Common.{◌≡◌}
use Rattle.std.specs.Prelude.{Some, pos}
use Rattle.dsv_algebra.specs.Floor.{floor_of}
use Rattle.dsv_netlist.specs.Nodes.{at}
use Rattle.dsv_linear.specs.Forms.{entries}
use Rattle.dsv_network.specs.Samples.{owned, step_of}
use Rattle.dsv_network.proofs.walk.quotient_form.Given as goal

abbrev pub invariant-loop-j : goal.invariant-loop-j
invariant-loop-j l = entries l.j (λ j. owned l.pass.is_first l.own j (pos (step_of l.near)) (floor_of (at l.form j) l.near.divisor)) ≡ Some l.list
