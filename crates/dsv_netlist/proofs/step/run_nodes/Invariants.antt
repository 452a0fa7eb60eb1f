use Rattle.std.proofs.Common.{◌≡◌, ◌<◌, take, drop}
use Rattle.std.specs.List.{All}
use Rattle.std.specs.Int.RustNames.{unsigned_abs}
use Rattle.dsv_netlist.specs.Limits.{bound_limit}
use Rattle.dsv_netlist.specs.Nodes.{sample_from, sample_of}
use Rattle.dsv_netlist.specs.Safety.{AreSafe}
use Rattle.dsv_netlist.proofs.step.run_nodes.Given as goal

abbrev pub invariant-loop-i : goal.invariant-loop-i
invariant-loop-i l = record {
  same : sample_from l.format l.registers l.x (drop l.i l.nodes) (record { values = take l.i l.values; exact = l.exact.items }) ≡ sample_of l.format l.registers l.x l.nodes;
  safe : AreSafe l.format l.registers l.x (drop l.i l.nodes) (record { values = take l.i l.values; exact = l.exact.items });
  bounded : All (λ v. unsigned_abs v < bound_limit) (take l.i l.values);
}
