use Rattle.std.proofs.Common.{◌≡◌}
use Rattle.std.specs.Prelude.{Some, ◌+ℤ◌}
use Rattle.dsv_netlist.specs.Nodes.{at}
use Rattle.dsv_linear.specs.Forms.{entries}
use Rattle.dsv_network.specs.Samples.{kept, part_of}
use Rattle.dsv_network.proofs.weights.Part.part_sums.Given as goal

abbrev pub invariant-loop-j : goal.invariant-loop-j
invariant-loop-j l = entries l.j (λ j. kept l.pass.count l.old j +ℤ part_of l.self l.d (at l.form j)) ≡ Some l.list
