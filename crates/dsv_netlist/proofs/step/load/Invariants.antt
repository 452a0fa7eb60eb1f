use Rattle.std.proofs.Common.{◌≡◌, take, map}
use Rattle.dsv_netlist.specs.Nodes.{at}
use Rattle.dsv_netlist.proofs.step.load.Given as goal

abbrev pub invariant-loop-k : goal.invariant-loop-k
invariant-loop-k l = take l.k l.registers ≡ map (at l.values) (take l.k l.next)
