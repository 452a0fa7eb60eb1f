use Rattle.std.proofs.Common.{◌≡◌, ◌++◌, ◌-◌, ◌+◌, length}
use Rattle.dsv_realise.specs.Netlists.{sources, registers_from}
use Rattle.dsv_realise.proofs.nodes.source_nodes.Given as goal

abbrev pub invariant-loop-register : goal.invariant-loop-register
invariant-loop-register l = record {
  same : l.nodes.items ++ registers_from l.register (l.registers - l.register) ≡ sources l.registers;
  few : length l.nodes.items ≡ l.register + 1;
}
