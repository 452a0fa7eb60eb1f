use Rattle.std.proofs.Common.{◌≡◌, take}
use Rattle.dsv_linear.specs.Known.{point_from}
use Rattle.dsv_linear.proofs.run.add_nodes.Given as goal

abbrev pub invariant-loop-node : goal.invariant-loop-node
invariant-loop-node l = l.point ≡ point_from l.start (take l.node-index l.nodes) l.fn.point
