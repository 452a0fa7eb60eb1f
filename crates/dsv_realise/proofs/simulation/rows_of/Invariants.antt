use Rattle.dsv_word.specs.Words.{IsWord}
use Rattle.std.proofs.Common.{◌≡◌, ◌++◌, length, drop, map}
use Rattle.std.specs.List.{All}
use Rattle.dsv_system.specs.RowViews.{row_of}
use Rattle.dsv_netlist.specs.Systems.{system_of}
use Rattle.dsv_system.specs.Systems.{rows}
use Rattle.dsv_realise.proofs.simulation.rows_of.Given as goal

abbrev pub invariant-loop-x : goal.invariant-loop-x
invariant-loop-x l = record {
  same : map row_of l.rows.items ++ rows (system_of l.net) l.registers (drop l.x-index l.inputs) ≡ rows (system_of l.net) l.fn.registers l.inputs;
  many : length l.registers ≡ length l.net.next;
  words : All (IsWord l.net.format) l.registers;
}
