use Rattle.std.proofs.Common.{◌≡◌}
use Rattle.dsv_network.specs.Gains.{symbol_registers}
use Rattle.dsv_network.proofs.starts.symbol_registers.Given as goal

abbrev pub invariant-loop-i : goal.invariant-loop-i
invariant-loop-i l = l.registers ≡ symbol_registers l.i
